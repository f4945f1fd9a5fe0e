-- What the third stage keeps still enters every member, and none of it can be spared: a link that could
-- be spared at the end could be spared when its turn came, since more was kept then.
use Rattle.std.proofs.Common.{◌≡◌, ℕ, zero, suc, ◌+◌, ◌-◌, ◌<◌, ◌≤◌, Bool, true, not, eqb, sym, refl, ap, ◌∙◌, subst, ⊎_elim, arith}
use Rattle.std.proofs.lemmas.Bool.{and_parts, and_from, both_ways, eq-eqb, not-true}
use Rattle.digraph.specs.Entering.{EnteredBy}
use Rattle.digraph.specs.Links.{Slots}
use Rattle.duality.specs.Families.{Covering}
use Rattle.duality.specs.Stages.{without, Needed, Dropped}
use Rattle.duality.specs.Theorems.{NoneToSpare}

-- a set that some links enter is entered by more links too
entered_by_more : (slots : Slots) (few many : ℕ → Bool) (set : ℕ) → ((k : ℕ) → few k ≡ true → many k ≡ true) → EnteredBy slots few set → EnteredBy slots many set
entered_by_more slots few many set more (k, chosen, enters) = (k, more k chosen, enters)

-- a link that is left out is not among the rest
left_out : (choice : ℕ → Bool) (k : ℕ) → without choice k k ≡ true → ⊥
left_out choice k e = both_ways (eqb k k) (not-true (eqb k k) (and_parts (choice k) (not (eqb k k)) e).1) (eq-eqb k k refl)

module _ (slots : Slots) (Member : ℕ → Type 0) (m : ℕ) (d : ℕ → ℕ) (kept : ℕ → ℕ → Bool) (stage : Dropped slots Member m d kept) where
  -- nothing comes back
  kept_before : (t k : ℕ) → t < m → kept (suc t) k ≡ true → kept t k ≡ true
  kept_before t k h e =
      ⊎_elim (λ (is, _). (and_parts (kept t k) (not (eqb k (d t))) (sym (is k) ∙ e)).0) (λ (is, _). sym (is k) ∙ e) (stage.turn t h)

  kept_earlier : (more t k : ℕ) → t + more ≤ m → kept (t + more) k ≡ true → kept t k ≡ true
  kept_earlier zero t k h e = subst (λ x. kept x k ≡ true) (let z : t + 0 ≡ t = omega arith in z) e
  kept_earlier (suc more) t k h e =
      kept_earlier more t k (omega arith) (kept_before (t + more) k (omega arith) (subst (λ x. kept x k ≡ true) (let z : t + suc more ≡ suc (t + more) = omega arith in z) e))

  kept_at : (t k : ℕ) → t ≤ m → kept m k ≡ true → kept t k ≡ true
  kept_at t k h e = kept_earlier (m - t) t k (omega arith) (subst (λ x. kept x k ≡ true) (let z : m ≡ t + (m - t) = omega arith in z) e)

  still_covering : Covering slots Member (kept 0) → (t : ℕ) → t ≤ m → Covering slots Member (kept t)
  still_covering start zero h = start
  still_covering start (suc t) h =
      ⊎_elim (λ (_, covers). covers)
      (λ (is, _) X member. entered_by_more slots (kept t) (kept (suc t)) X (λ k e. is k ∙ e) (still_covering start t (omega arith) X member))
      (stage.turn t h)

  -- the member that needed a link in its turn needs it at the end
  still_needed : (t k : ℕ) → t < m → d t ≡ k → kept m k ≡ true → Needed slots Member (kept m) k
  still_needed t k h e last = ⊎_elim dropped stayed (stage.turn t h)
    where
      dropped : ((j : ℕ) → kept (suc t) j ≡ without (kept t) (d t) j) × Covering slots Member (kept (suc t)) → Needed slots Member (kept m) k
      dropped (is, _) = absurd (left_out (kept t) k (ap (λ x. without (kept t) x k) (sym e) ∙ sym (is k) ∙ kept_at (suc t) k h last))

      stayed : ((j : ℕ) → kept (suc t) j ≡ kept t j) × Needed slots Member (kept t) (d t) → Needed slots Member (kept m) k
      stayed (_, need) =
          record {
            set = need.set;
            member = need.member;
            unentered = λ entered. need.unentered
                (subst (λ x. EnteredBy slots (without (kept t) x) need.set) (sym e)
                (entered_by_more slots (without (kept m) k) (without (kept t) k) need.set
                (λ j chosen. let both = and_parts (kept m j) (not (eqb j k)) chosen in and_from (kept t j) (not (eqb j k)) (kept_at t j (omega arith) both.0) both.1) entered));
          }

  pub none_to_spare : Covering slots Member (kept 0) → NoneToSpare slots Member (kept m)
  none_to_spare start =
      record {
        covers = still_covering start m (omega arith);
        needed = λ k e. let (t, h, at) = stage.each k (kept_at 0 k (omega arith) e) in still_needed t k h at e;
      }
