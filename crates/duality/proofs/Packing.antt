-- The first stage, set by set: what it keeps of the prices, and how its sets lie to one another.
-- What is left of a link never falls below nothing, since each set's amount is the least that is left of the links that enter it.
use Rattle.std.proofs.Common.{◌≡◌, ℕ, zero, suc, ◌+◌, ◌*◌, ◌<◌, ◌≤◌, Bool, true, false, cond, ◌⊎◌, length, sym, refl, ap, ◌∙◌, subst, inl, inr, true≢false, arith}
use lib.Bits.{bit_and}
use native.Mathlib.Decide.{ℕ_discrete}
use Rattle.digraph.specs.Links.{Slots}
use Rattle.digraph.specs.Entering.{enters_at}
use Rattle.stations.specs.Sets.{In, Part}
use Rattle.duality.specs.Families.{Family}
use Rattle.duality.proofs.Amounts.{Amounts, given, nothing_and, more_with, cancel_to_nothing, above_nothing, is_nothing_or_not}
use Rattle.duality.proofs.Searches.{find_or_none}
use Rattle.duality.proofs.Entering.{enters_meet, entering_is_listed, and_part_left, and_part_right, share_or_not}
use Rattle.duality.proofs.WeakDuality.{load}
use Rattle.duality.proofs.Nests.{Nested, fewer_than_twice}

-- p sets Z with their amounts y; c i k is what is left of the price of link k before set i
pub record Packing (G : Amounts) (slots : Slots) (Member : ℕ → Type 0)
    (p : ℕ) (Z : ℕ → ℕ) (y : ℕ → G.Amount) (c : ℕ → ℕ → G.Amount) : Type 0 where
  pub member : (i : ℕ) → i < p → Member (Z i)
  -- no link with nothing left enters it
  pub unentered : (i k : ℕ) → i < p → enters_at slots k (Z i) ≡ true → c i k ≡ G.𝟘 → ⊥
  -- and it has no proper part of which that is true
  pub least : (i : ℕ) → i < p → (X : ℕ) → Member X → Part X (Z i)
      → ((k : ℕ) → enters_at slots k X ≡ true → c i k ≡ G.𝟘 → ⊥) → X ≡ Z i
  -- its amount is the least that is left of a link that enters it
  pub tight : (i : ℕ) → i < p → (k : ℕ) × (enters_at slots k (Z i) ≡ true) × (c i k ≡ y i)
  pub at_most : (i k : ℕ) → i < p → enters_at slots k (Z i) ≡ true → G.below (c i k) (y i) ≡ false
  -- and falls due on each of these
  pub fall : (i k : ℕ) → i < p → k < length slots → G.◌⊕◌ (c (suc i) k) (cond (enters_at slots k (Z i)) (y i) G.𝟘) ≡ c i k
  pub prices : (k : ℕ) → k < length slots → G.below (c 0 k) G.𝟘 ≡ false

module _ (G : Amounts) (slots : Slots) (Member : ℕ → Type 0)
    (p : ℕ) (Z : ℕ → ℕ) (y : ℕ → G.Amount) (c : ℕ → ℕ → G.Amount) (P : Packing G slots Member p Z y c) where
  open G use {Amount, ◌⊕◌, 𝟘, below, associative, commutative, with_nothing, irreflexive, not_below_transitive, translation}

  infixl 65 ◌⊕◌
  -- what a link that enters no set keeps
  pub keeps : (i k : ℕ) → i < p → k < length slots → enters_at slots k (Z i) ≡ false → c (suc i) k ≡ c i k
  keeps i k h l e =
      sym (with_nothing (c (suc i) k)) ∙ ap (λ (b : Bool). c (suc i) k ⊕ given G b (y i)) (sym e) ∙ P.fall i k h l

  pub falls : (i k : ℕ) → i < p → enters_at slots k (Z i) ≡ true → c (suc i) k ⊕ y i ≡ c i k
  falls i k h e =
      ap (λ (b : Bool). c (suc i) k ⊕ given G b (y i)) (sym e) ∙ P.fall i k h (entering_is_listed slots k (Z i) e)

  pub left_not_below_nothing : (i k : ℕ) → i ≤ p → k < length slots → below (c i k) 𝟘 ≡ false
  left_not_below_nothing zero k h l = P.prices k l
  left_not_below_nothing (suc i) k h l = go (enters_at slots k (Z i)) refl (left_not_below_nothing i k (omega arith) l)
    where
      go : (b : Bool) → enters_at slots k (Z i) ≡ b → below (c i k) 𝟘 ≡ false → below (c (suc i) k) 𝟘 ≡ false
      go false e before = subst (λ (x : Amount). below x 𝟘 ≡ false) (sym (keeps i k (omega arith) l e)) before
      go true e before =
          sym (translation (c (suc i) k) 𝟘 (y i))
          ∙ subst (λ (x : Amount). below x (𝟘 ⊕ y i) ≡ false) (sym (falls i k (omega arith) e))
          (subst (λ (x : Amount). below (c i k) x ≡ false) (sym (nothing_and G (y i))) (P.at_most i k (omega arith) e))

  nothing_stays_once : (i k : ℕ) → i < p → k < length slots → c i k ≡ 𝟘 → c (suc i) k ≡ 𝟘
  nothing_stays_once i k h l e = go (enters_at slots k (Z i)) refl
    where
      go : (b : Bool) → enters_at slots k (Z i) ≡ b → c (suc i) k ≡ 𝟘
      go false q = keeps i k h l q ∙ e
      go true q = absurd (P.unentered i k h q e)

  pub nothing_stays : (i j k : ℕ) → i ≤ j → j ≤ p → k < length slots → c i k ≡ 𝟘 → c j k ≡ 𝟘
  nothing_stays i zero k h g l e = subst (λ (x : ℕ). c x k ≡ 𝟘) (zero_only i h) e
    where
      zero_only : (i : ℕ) → i ≤ 0 → i ≡ 0
      zero_only i h = omega arith
  nothing_stays i (suc j) k h g l e = go (ℕ_discrete i (suc j)) (λ q. nothing_stays i j k q (omega arith) l e)
    where
      go : Dec (i ≡ suc j) → (i ≤ j → c j k ≡ 𝟘) → c (suc j) k ≡ 𝟘
      go (yes q) rest = subst (λ (x : ℕ). c x k ≡ 𝟘) q e
      go (no ne) rest = nothing_stays_once j k (omega arith) l (rest (omega arith))

  pub amount_not_below_nothing : (i : ℕ) → i < p → below (y i) 𝟘 ≡ false
  amount_not_below_nothing i h =
      let t = P.tight i h in
      subst (λ (x : Amount). below x 𝟘 ≡ false) t.2
      (left_not_below_nothing i t.0 (omega arith) (entering_is_listed slots t.0 (Z i) t.1))

  pub amount_above_nothing : (i : ℕ) → i < p → below 𝟘 (y i) ≡ true
  amount_above_nothing i h =
      let t = P.tight i h in
      above_nothing G (y i) (amount_not_below_nothing i h) (λ e. P.unentered i t.0 h t.1 (t.2 ∙ e))

  -- after a set, some link that enters it has nothing left
  pub used_up : (i : ℕ) → i < p → (k : ℕ) × (enters_at slots k (Z i) ≡ true) × (c (suc i) k ≡ 𝟘)
  used_up i h =
      let t = P.tight i h in
      (t.0, t.1, cancel_to_nothing G (c (suc i) t.0) (y i) (falls i t.0 h t.1 ∙ t.2))

  -- what is left and the amounts of the sets entered make the price
  pub left_and_load : (i k : ℕ) → i ≤ p → k < length slots → c i k ⊕ load G slots Z y i k ≡ c 0 k
  left_and_load zero k h l = with_nothing (c 0 k)
  left_and_load (suc i) k h l =
      ap (λ (x : Amount). c (suc i) k ⊕ x) (commutative (load G slots Z y i k) (given G (enters_at slots k (Z i)) (y i)))
      ∙ sym (associative (c (suc i) k) (given G (enters_at slots k (Z i)) (y i)) (load G slots Z y i k))
      ∙ ap (λ (x : Amount). x ⊕ load G slots Z y i k) (P.fall i k (omega arith) l)
      ∙ left_and_load i k (omega arith) l

  -- no link's price is exceeded
  pub load_within_price : (i k : ℕ) → i ≤ p → k < length slots → below (c 0 k) (load G slots Z y i k) ≡ false
  load_within_price i k h l =
      subst (λ (x : Amount). below x (load G slots Z y i k) ≡ false)
      (commutative (load G slots Z y i k) (c i k) ∙ left_and_load i k h l)
      (more_with G (load G slots Z y i k) (c i k) (left_not_below_nothing i k h l))

  pub nothing_left_is_tight : (i k : ℕ) → i ≤ p → k < length slots → c i k ≡ 𝟘 → load G slots Z y i k ≡ c 0 k
  nothing_left_is_tight i k h l e =
      sym (nothing_and G (load G slots Z y i k)) ∙ ap (λ (x : Amount). x ⊕ load G slots Z y i k) (sym e) ∙ left_and_load i k h l

  -- some link with nothing left enters a set, or none does
  pub entered_by_used_up_or_not : (i X : ℕ)
      → ((k : ℕ) × (enters_at slots k X ≡ true) × (c i k ≡ 𝟘)) ⊎ ((k : ℕ) → enters_at slots k X ≡ true → c i k ≡ 𝟘 → ⊥)
  entered_by_used_up_or_not i X = go (find_or_none (λ k. (enters_at slots k X ≡ true) × (c i k ≡ 𝟘)) decide (length slots))
    where
      decide : (k : ℕ) → Dec ((enters_at slots k X ≡ true) × (c i k ≡ 𝟘))
      decide k = both (enters_at slots k X) refl (is_nothing_or_not G (c i k))
        where
          both : (b : Bool) → enters_at slots k X ≡ b → Dec (c i k ≡ 𝟘) → Dec ((enters_at slots k X ≡ true) × (c i k ≡ 𝟘))
          both false e d = no (λ t. true≢false (sym t.0 ∙ e))
          both true e (yes z) = yes (e, z)
          both true e (no nz) = no (λ t. nz t.1)

      go : ((k : ℕ) × (k < length slots) × ((enters_at slots k X ≡ true) × (c i k ≡ 𝟘)))
          ⊎ ((k : ℕ) → k < length slots → (enters_at slots k X ≡ true) × (c i k ≡ 𝟘) → ⊥)
          → ((k : ℕ) × (enters_at slots k X ≡ true) × (c i k ≡ 𝟘)) ⊎ ((k : ℕ) → enters_at slots k X ≡ true → c i k ≡ 𝟘 → ⊥)
      go (inl t) = inl (t.0, t.2.0, t.2.1)
      go (inr none) = inr (λ k e z. none k (entering_is_listed slots k X e) (e, z))

  -- ---- how the sets lie

  module _ (n : ℕ) (F : Family n Member) where
    pub nested : Nested p Z
    nested i j s h g a b = (inside, different)
      where
        listed : (k X : ℕ) → enters_at slots k X ≡ true → k < length slots
        listed k X = entering_is_listed slots k X

        met : Member (bit_and (Z i) (Z j))
        met = F.meet (Z i) (Z j) s (P.member i (omega arith)) (P.member j g) a b

        free : (k : ℕ) → enters_at slots k (bit_and (Z i) (Z j)) ≡ true → c i k ≡ 𝟘 → ⊥
        free k e z = by (enters_meet slots k (Z i) (Z j) e)
          where
            by : (enters_at slots k (Z i) ≡ true) ⊎ (enters_at slots k (Z j) ≡ true) → ⊥
            by (inl q) = P.unentered i k (omega arith) q z
            by (inr q) = P.unentered j k g q (nothing_stays i j k (omega arith) (omega arith) (listed k (Z j) q) z)

        whole : bit_and (Z i) (Z j) ≡ Z i
        whole = P.least i (omega arith) (bit_and (Z i) (Z j)) met (and_part_left (Z i) (Z j)) free

        inside : Part (Z i) (Z j)
        inside = subst (λ (x : ℕ). Part x (Z j)) whole (and_part_right (Z i) (Z j))

        different : Z i ≡ Z j → ⊥
        different e =
            let u = used_up i (omega arith) in
            P.unentered j u.0 g (subst (λ (x : ℕ). enters_at slots u.0 x ≡ true) e u.1)
            (nothing_stays (suc i) j u.0 h (omega arith) (listed u.0 (Z i) u.1) u.2)

    pub apart_or_inside : (i j : ℕ) → i < j → j < p → ((s : ℕ) → In (Z i) s → In (Z j) s → ⊥) ⊎ (Part (Z i) (Z j) × (Z i ≡ Z j → ⊥))
    apart_or_inside i j h g = go (share_or_not (Z i) (Z j))
      where
        go : ((s : ℕ) × (In (Z i) s) × (In (Z j) s)) ⊎ ((s : ℕ) → In (Z i) s → In (Z j) s → ⊥)
            → ((s : ℕ) → In (Z i) s → In (Z j) s → ⊥) ⊎ (Part (Z i) (Z j) × (Z i ≡ Z j → ⊥))
        go (inl t) = inr (nested i j t.0 h g t.1 t.2)
        go (inr apart) = inl apart

    pub few_sets : 1 ≤ n → p + 1 ≤ 2 * n
    few_sets = fewer_than_twice n p Z nested (λ i h. F.not_empty (Z i) (P.member i h)) (λ i h. F.inside (Z i) (P.member i h))
