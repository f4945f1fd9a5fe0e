-- Where each station but the base is a member by itself and no member has the base, one link taken leads into each station but the base, and all are kept.
-- The links that enter a single station lead into it, and the heads of links taken differ.
use Rattle.std.proofs.Common.{◌≡◌, ℕ, zero, suc, ◌+◌, ◌-◌, ◌^◌, ◌<◌, ◌≤◌, Bool, true, sym, ap, ◌∙◌, subst, arith}
use native.Mathlib.Decide.{dec_lt}
use Rattle.digraph.specs.Links.{Slots}
use Rattle.digraph.proofs.Pigeons.{all_taken}
use Rattle.stations.specs.Sets.{In}
use Rattle.stations.proofs.Digits.{In-pow, In-below}
use Rattle.duality.specs.Families.{Family, Covering}
use Rattle.duality.proofs.Amounts.{Amounts}
use Rattle.duality.proofs.Entering.{head_at, head_in}
use Rattle.duality.proofs.Taking.{Taking, taken, taken_is, heads_differ}

-- as many numbers as map into others, no two to one
pub no_more_than : (m r : ℕ) (f : ℕ → ℕ) → ((k : ℕ) → k < m → f k < r) → ((j k : ℕ) → j < m → k < m → f j ≡ f k → j ≡ k) → m ≤ r
no_more_than m r f within once = go (dec_lt r m)
  where
    go : Dec (r < m) → m ≤ r
    go (no h) = omega arith
    go (yes h) =
        let t = all_taken m r f h (λ k l. omega (arith, within k l)) once in
        absurd (omega (arith, within t.0 t.1, t.2))

pub record OneLinkEach (slots : Slots) (n : ℕ) (kept : ℕ → Bool) (q : ℕ) (l : ℕ → ℕ) : Type 0 where
  pub into_each : (v : ℕ) → 0 < v → v < n → (t : ℕ) × (t < q) × (head_at slots (l t) ≡ v)
  pub only_one : (t u : ℕ) → t < q → u < q → head_at slots (l t) ≡ head_at slots (l u) → t ≡ u
  pub not_into_base : (t : ℕ) → t < q → 0 < head_at slots (l t)
  pub into_stations : (t : ℕ) → t < q → head_at slots (l t) < n
  pub as_many : 1 ≤ n → q + 1 ≡ n
  pub all_kept : (t : ℕ) → t < q → kept (l t) ≡ true

module _ (G : Amounts) (slots : Slots) (Member : ℕ → Type 0) (n : ℕ) (F : Family n Member)
    (p : ℕ) (c : ℕ → ℕ → G.Amount) (q : ℕ) (l M : ℕ → ℕ) (T : Taking G slots Member p c q l M)
    (kept : ℕ → Bool) (of_taken : (k : ℕ) → kept k ≡ true → taken q l k ≡ true) (covers : Covering slots Member kept)
    (singles : (v : ℕ) → 0 < v → v < n → Member (2 ^ v)) (no_base : (X : ℕ) → Member X → In X 0 → ⊥) where
  head_of_taken : (t : ℕ) → t < q → In (M t) (head_at slots (l t))
  head_of_taken t h = head_in slots (l t) (M t) (T.enters t h)

  head_positive : (t : ℕ) → t < q → 0 < head_at slots (l t)
  head_positive t h = go (head_at slots (l t)) (head_of_taken t h)
    where
      go : (v : ℕ) → In (M t) v → 0 < v
      go zero i = absurd (no_base (M t) (T.member t h) i)
      go (suc v) i = omega arith

  head_below : (t : ℕ) → t < q → head_at slots (l t) < n
  head_below t h = In-below n (M t) (head_at slots (l t)) (F.inside (M t) (T.member t h)) (head_of_taken t h)

  same_head : (t u : ℕ) → t < q → u < q → head_at slots (l t) ≡ head_at slots (l u) → t ≡ u
  same_head = heads_differ G slots Member n F p c q l M T

  -- the link kept that enters a single station
  record Into (v t : ℕ) : Type 0 where
    within : t < q
    leads : head_at slots (l t) ≡ v
    is_kept : kept (l t) ≡ true

  into : (v : ℕ) → 0 < v → v < n → (t : ℕ) × Into v t
  into v h g =
      let k = covers (2 ^ v) (singles v h g) in
      let t = taken_is q l k.0 (of_taken k.0 k.1) in (
        t.0,
        record {
          within = t.1;
          leads = ap (head_at slots) t.2 ∙ sym (In-pow v (head_at slots k.0) (head_in slots k.0 (2 ^ v) k.2));
          is_kept = subst (λ (x : ℕ). kept x ≡ true) (sym t.2) k.1;
        },
      )

  -- which link leads into station k + 1; any number where there is no such station
  entry : (k : ℕ) → (t : ℕ) × (suc k < n → Into (suc k) t)
  entry k = go (dec_lt (suc k) n)
    where
      go : Dec (suc k < n) → (t : ℕ) × (suc k < n → Into (suc k) t)
      go (yes h) = let t = into (suc k) (omega arith) h in (t.0, λ _. t.1)
      go (no h) = (0, λ g. absurd (h g))

  enough : 1 ≤ n → n - 1 ≤ q
  enough h =
      no_more_than (n - 1) q (λ k. (entry k).0) (λ k d. ((entry k).1 (omega arith)).within)
      (λ j k d e same.
      let one = ((entry j).1 (omega arith)).leads in
      let other = ((entry k).1 (omega arith)).leads in
      omega (arith, ap (λ (t : ℕ). head_at slots (l t)) same))

  no_more : 1 ≤ n → q ≤ n - 1
  no_more h =
      no_more_than q (n - 1) (λ t. head_at slots (l t) - 1) (λ t d. omega (arith, head_positive t d, head_below t d))
      (λ t u d e same. same_head t u d e (omega (arith, head_positive t d, head_positive u e)))

  pub one_link_each : OneLinkEach slots n kept q l
  one_link_each = record {
    into_each = λ v h g. let t = into v h g in (t.0, t.1.within, t.1.leads);
    only_one = same_head;
    not_into_base = head_positive;
    into_stations = head_below;
    as_many = λ h. omega (arith, enough h, no_more h);
    all_kept = λ t h.
        let u = into (head_at slots (l t)) (head_positive t h) (head_below t h) in
        subst (λ (x : ℕ). kept (l x) ≡ true) (same_head u.0 t u.1.within h u.1.leads) u.1.is_kept;
  }
