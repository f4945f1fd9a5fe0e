-- The two stages exist and end, whatever the prices, where a family answers which member is least and which is greatest that links leave out.
-- Each stage goes on for ever; that it has not stopped where it must have is refuted by how few sets it can have, or how few links.
use Rattle.std.proofs.Common.{◌≡◌, ℕ, zero, suc, ◌*◌, ◌<◌, ◌≤◌, Bool, true, false, ◌||◌, eqb, ◌⊎◌, length, sym, refl, ap, ◌∙◌, subst, inl, inr, true≢false, arith}
use native.Mathlib.Decide.{ℕ_discrete, dec_lt}
use Rattle.digraph.specs.Links.{Slots}
use Rattle.digraph.specs.Entering.{enters_at}
use Rattle.stations.specs.Sets.{Part}
use Rattle.cuts.specs.Families.{LeastUnentered, GreatestUnentered}
use Rattle.cuts.proofs.Searches.{First, EachBelow, first_of}
use Rattle.duality.specs.Families.{Family, Covering}
use Rattle.duality.proofs.Amounts.{Amounts, given, is_nothing_or_not, not_below_itself, not_below_back}
use Rattle.duality.proofs.Entering.{entering_is_listed}
use Rattle.duality.proofs.Packing.{Packing, few_sets, nothing_stays, entered_by_used_up_or_not}
use Rattle.duality.proofs.Singles.{no_more_than}
use Rattle.duality.proofs.Steps.{PackingStep, TakingStep, packing_of_steps, taking_of_steps}
use Rattle.duality.proofs.Taking.{Taking, taken, taken_is, is_taken, links_differ}

-- whatever links are chosen, they enter every member, or leave out a least one and a greatest one
pub record Answers (slots : Slots) (Member : ℕ → Type 0) : Type 0 where
  pub smallest : (choice : ℕ → Bool) → Covering slots Member choice ⊎ ((X : ℕ) × LeastUnentered slots choice Member X)
  pub largest : (choice : ℕ → Bool) → Covering slots Member choice ⊎ ((X : ℕ) × GreatestUnentered slots choice Member X)

-- every member is entered by a link with nothing left
abbrev pub UsedUpCover : (G : Amounts) → Slots → (ℕ → Type 0) → (ℕ → G.Amount) → Type 0
UsedUpCover G slots Member left = (X : ℕ) → Member X → (k : ℕ) × (enters_at slots k X ≡ true) × (left k ≡ G.𝟘)

-- a first stage that starts from the prices and goes on to its end
pub record FirstStage (G : Amounts) (slots : Slots) (Member : ℕ → Type 0) (prices : ℕ → G.Amount) : Type 0 where
  pub p : ℕ
  pub Z : ℕ → ℕ
  pub y : ℕ → G.Amount
  pub c : ℕ → ℕ → G.Amount
  pub packing : Packing G slots Member p Z y c
  pub from_prices : (k : ℕ) → c 0 k ≡ prices k
  pub ended : UsedUpCover G slots Member (c p)

-- a second stage that goes on to its end
pub record SecondStage (G : Amounts) (slots : Slots) (Member : ℕ → Type 0) (p : ℕ) (c : ℕ → ℕ → G.Amount) : Type 0 where
  pub q : ℕ
  pub l : ℕ → ℕ
  pub M : ℕ → ℕ
  pub taking : Taking G slots Member p c q l M
  pub covers : Covering slots Member (taken q l)

module _ (G : Amounts) (slots : Slots) (Member : ℕ → Type 0) (n : ℕ) (F : Family n Member) (answers : Answers slots Member) where
  open G use {Amount, ◌⊖◌, 𝟘, below, not_below_transitive, taken_and_added}

  infixl 65 ◌⊖◌
  -- ---- the link of which least is left, of those that enter a set

  -- of the links below m that enter a set, least is left of this one
  record LeastLeft (left : ℕ → Amount) (X m : ℕ) : Type 0 where
    link : ℕ
    enters : enters_at slots link X ≡ true
    at_most : (k : ℕ) → k < m → enters_at slots k X ≡ true → below (left k) (left link) ≡ false

  least_left_or_none : (left : ℕ → Amount) (X m : ℕ) → LeastLeft left X m ⊎ ((k : ℕ) → k < m → enters_at slots k X ≡ true → ⊥)
  least_left_or_none left X zero = inr (λ k h e. omega arith)
  least_left_or_none left X (suc m) = go (enters_at slots m X) refl (least_left_or_none left X m)
    where
      none_yet : enters_at slots m X ≡ false → ((k : ℕ) → k < m → enters_at slots k X ≡ true → ⊥)
          → (k : ℕ) → k < suc m → enters_at slots k X ≡ true → Dec (k ≡ m) → ⊥
      none_yet f none k h e (yes q) = true≢false (sym e ∙ ap (λ (x : ℕ). enters_at slots x X) q ∙ f)
      none_yet f none k h e (no ne) = none k (omega arith) e

      keep : (t : LeastLeft left X m) → (enters_at slots m X ≡ true → below (left m) (left t.link) ≡ false)
          → (k : ℕ) → k < suc m → enters_at slots k X ≡ true → Dec (k ≡ m) → below (left k) (left t.link) ≡ false
      keep t here k h e (yes q) =
          subst (λ (x : ℕ). below (left x) (left t.link) ≡ false) (sym q) (here (subst (λ (x : ℕ). enters_at slots x X ≡ true) q e))
      keep t here k h e (no ne) = t.at_most k (omega arith) e

      change : (t : LeastLeft left X m) → below (left t.link) (left m) ≡ false
          → (k : ℕ) → k < suc m → enters_at slots k X ≡ true → Dec (k ≡ m) → below (left k) (left m) ≡ false
      change t less k h e (yes q) = not_below_itself G (left k) (left m) (ap left q)
      change t less k h e (no ne) = not_below_transitive (left k) (left t.link) (left m) (t.at_most k (omega arith) e) less

      only : ((k : ℕ) → k < m → enters_at slots k X ≡ true → ⊥)
          → (k : ℕ) → k < suc m → enters_at slots k X ≡ true → Dec (k ≡ m) → below (left k) (left m) ≡ false
      only none k h e (yes q) = not_below_itself G (left k) (left m) (ap left q)
      only none k h e (no ne) = absurd (none k (omega arith) e)

      compare : enters_at slots m X ≡ true → (t : LeastLeft left X m) (b : Bool) → below (left m) (left t.link) ≡ b → LeastLeft left X (suc m)
      compare e t false less =
          record { link = t.link; enters = t.enters; at_most = λ k h f. keep t (λ _. less) k h f (ℕ_discrete k m) }
      compare e t true less =
          record {
            link = m;
            enters = e;
            at_most = λ k h f. change t (not_below_back G (left m) (left t.link) less) k h f (ℕ_discrete k m);
          }

      go : (b : Bool) → enters_at slots m X ≡ b → LeastLeft left X m ⊎ ((k : ℕ) → k < m → enters_at slots k X ≡ true → ⊥)
          → LeastLeft left X (suc m) ⊎ ((k : ℕ) → k < suc m → enters_at slots k X ≡ true → ⊥)
      go false e (inl t) =
          inl (record {
            link = t.link;
            enters = t.enters;
            at_most = λ k h f. keep t (λ g. absurd (true≢false (sym g ∙ e))) k h f (ℕ_discrete k m);
          })
      go false e (inr none) = inr (λ k h f. none_yet e none k h f (ℕ_discrete k m))
      go true e (inl t) = inl (compare e t (below (left m) (left t.link)) refl)
      go true e (inr none) = inl (record { link = m; enters = e; at_most = λ k h f. only none k h f (ℕ_discrete k m) })

  least_left : (left : ℕ → Amount) (X : ℕ) → ((k : ℕ) × (enters_at slots k X ≡ true)) → LeastLeft left X (length slots)
  least_left left X some = go (least_left_or_none left X (length slots))
    where
      go : LeastLeft left X (length slots) ⊎ ((k : ℕ) → k < length slots → enters_at slots k X ≡ true → ⊥) → LeastLeft left X (length slots)
      go (inl t) = t
      go (inr none) = absurd (none some.0 (entering_is_listed slots some.0 X some.1) some.1)

  -- ---- the first stage

  -- whether nothing is left of a link, as a test
  tested : (a : Amount) → Dec (a ≡ 𝟘) → Bool
  tested a (yes e) = true
  tested a (no ne) = false

  used_up : (ℕ → Amount) → ℕ → Bool
  used_up left k = tested (left k) (is_nothing_or_not G (left k))

  used_up_is : (left : ℕ → Amount) (k : ℕ) → used_up left k ≡ true → left k ≡ 𝟘
  unfolding used_up tested
  used_up_is left k = go (is_nothing_or_not G (left k))
    where
      go : (d : Dec (left k ≡ 𝟘)) → tested (left k) d ≡ true → left k ≡ 𝟘
      go (yes e) h = e
      go (no ne) h = absurd (true≢false (sym h))

  is_used_up : (left : ℕ → Amount) (k : ℕ) → left k ≡ 𝟘 → used_up left k ≡ true
  unfolding used_up tested
  is_used_up left k e = go (is_nothing_or_not G (left k))
    where
      go : (d : Dec (left k ≡ 𝟘)) → tested (left k) d ≡ true
      go (yes _) = refl
      go (no ne) = absurd (ne e)

  -- the next set, with its amount, and what is left with its amount taken
  record NextSet (left : ℕ → Amount) : Type 0 where
    set : ℕ
    amount : Amount
    step : PackingStep G slots Member set amount left (λ k. left k ⊖ given G (enters_at slots k set) amount)

  module _ (enterable : (X : ℕ) → Member X → (k : ℕ) × (enters_at slots k X ≡ true)) where
    next_of : (left : ℕ → Amount) (X : ℕ) → LeastUnentered slots (used_up left) Member X → NextSet left
    next_of left X least = record {
      set = X;
      amount = left best.link;
      step = record {
        member = least.member;
        unentered = λ k e z. least.unentered (k, is_used_up left k z, e);
        least = λ Y m part free. same Y m part free (ℕ_discrete Y X);
        tight = (best.link, best.enters, refl);
        at_most = λ k e. best.at_most k (entering_is_listed slots k X e) e;
        fall = λ k h. taken_and_added (left k) (given G (enters_at slots k X) (left best.link));
      };
    }
      where
        best : LeastLeft left X (length slots)
        best = least_left left X (enterable X least.member)

        same : (Y : ℕ) → Member Y → Part Y X → ((k : ℕ) → enters_at slots k Y ≡ true → left k ≡ 𝟘 → ⊥) → Dec (Y ≡ X) → Y ≡ X
        same Y m part free (yes e) = e
        same Y m part free (no ne) = let t = least.least Y m part ne in absurd (free t.0 t.2 (used_up_is left t.0 t.1))

    next : (left : ℕ → Amount) → UsedUpCover G slots Member left ⊎ NextSet left
    next left = go (answers.smallest (used_up left))
      where
        go : Covering slots Member (used_up left) ⊎ ((X : ℕ) × LeastUnentered slots (used_up left) Member X)
            → UsedUpCover G slots Member left ⊎ NextSet left
        go (inl all) = inl (λ X m. let t = all X m in (t.0, t.2, used_up_is left t.0 t.1))
        go (inr t) = inr (next_of left t.0 t.1)

    set_of : (left : ℕ → Amount) → UsedUpCover G slots Member left ⊎ NextSet left → ℕ
    set_of left (inl all) = 0
    set_of left (inr s) = s.set

    amount_of : (left : ℕ → Amount) → UsedUpCover G slots Member left ⊎ NextSet left → Amount
    amount_of left (inl all) = 𝟘
    amount_of left (inr s) = s.amount

    -- what is left before each set, for ever
    lefts : (ℕ → Amount) → ℕ → ℕ → Amount
    lefts prices zero k = prices k
    lefts prices (suc i) k =
        lefts prices i k
        ⊖ given G (enters_at slots k (set_of (lefts prices i) (next (lefts prices i)))) (amount_of (lefts prices i) (next (lefts prices i)))

    module _ (prices : ℕ → Amount) where
      sets : ℕ → ℕ
      sets i = set_of (lefts prices i) (next (lefts prices i))

      amounts : ℕ → Amount
      amounts i = amount_of (lefts prices i) (next (lefts prices i))

      EndsAt : ℕ → Type 0
      EndsAt i = UsedUpCover G slots Member (lefts prices i)

      StepsAt : ℕ → Type 0
      StepsAt i = PackingStep G slots Member (sets i) (amounts i) (lefts prices i) (lefts prices (suc i))

      ends_or_steps : (i : ℕ) → EndsAt i ⊎ StepsAt i
      unfolding EndsAt StepsAt sets amounts lefts set_of amount_of
      ends_or_steps i = go (lefts prices i) (next (lefts prices i))
        where
          go : (left : ℕ → Amount) (a : UsedUpCover G slots Member left ⊎ NextSet left)
              → UsedUpCover G slots Member left
              ⊎ PackingStep G slots Member (set_of left a) (amount_of left a) left (λ k. left k ⊖ given G (enters_at slots k (set_of left a)) (amount_of left a))
          go left (inl all) = inl all
          go left (inr s) = inr s.step

      module _ (some : 1 ≤ n) (not_below : (k : ℕ) → k < length slots → below (prices k) 𝟘 ≡ false) where
        packing_to : (i : ℕ) → EachBelow i StepsAt → Packing G slots Member i sets amounts (lefts prices)
        unfolding StepsAt lefts
        packing_to i steps = packing_of_steps G slots Member i sets amounts (lefts prices) not_below steps

        pub first_stage : FirstStage G slots Member prices
        unfolding EndsAt lefts
        first_stage = go (first_of EndsAt StepsAt ends_or_steps (2 * n))
          where
            go : ((i : ℕ) × First (2 * n) EndsAt StepsAt i) ⊎ EachBelow (2 * n) StepsAt → FirstStage G slots Member prices
            go (inl (i, h)) = record {
              p = i;
              Z = sets;
              y = amounts;
              c = lefts prices;
              packing = packing_to i h.before;
              from_prices = λ k. refl;
              ended = h.found;
            }
            go (inr steps) =
                let few = few_sets G slots Member (2 * n) sets amounts (lefts prices) (packing_to (2 * n) steps) n F some in
                absurd (omega arith)

  -- ---- the second stage

  module _ (p : ℕ) (Z : ℕ → ℕ) (y : ℕ → Amount) (c : ℕ → ℕ → Amount) (P : Packing G slots Member p Z y c)
      (ended : UsedUpCover G slots Member (c p)) where
    -- the next link, taken for a member that the links chosen leave out
    record NextLink (choice : ℕ → Bool) : Type 0 where
      set : ℕ
      link : ℕ
      greatest : GreatestUnentered slots choice Member set
      enters : enters_at slots link set ≡ true
      nothing_left : c p link ≡ 𝟘
      earliest : (i d : ℕ) → i ≤ p → enters_at slots d set ≡ true → c i d ≡ 𝟘 → c i link ≡ 𝟘

    -- some link that enters the set has nothing left before set i, or none has
    SomeAt : ℕ → ℕ → Type 0
    SomeAt X i = (k : ℕ) × (enters_at slots k X ≡ true) × (c i k ≡ 𝟘)

    NoneAt : ℕ → ℕ → Type 0
    NoneAt X i = (k : ℕ) → enters_at slots k X ≡ true → c i k ≡ 𝟘 → ⊥

    some_or_none : (X i : ℕ) → SomeAt X i ⊎ NoneAt X i
    unfolding SomeAt NoneAt
    some_or_none X i = entered_by_used_up_or_not G slots Member p Z y c P i X

    -- the first that comes to nothing
    link_for : (choice : ℕ → Bool) (X : ℕ) → GreatestUnentered slots choice Member X → NextLink choice
    unfolding SomeAt NoneAt
    link_for choice X greatest = go (first_of (SomeAt X) (NoneAt X) (some_or_none X) (suc p))
      where
        go : ((i : ℕ) × First (suc p) (SomeAt X) (NoneAt X) i) ⊎ EachBelow (suc p) (NoneAt X) → NextLink choice
        go (inr none) = let t = ended X greatest.member in absurd (none p (omega arith) t.0 t.1 t.2)
        go (inl (i, h)) = record {
          set = X;
          link = h.found.0;
          greatest = greatest;
          enters = h.found.1;
          nothing_left = stays p (omega (arith, h.below)) (omega arith);
          earliest = λ j d within e z. stays j (not_before j d e z (dec_lt j i)) within;
        }
          where
            stays : (j : ℕ) → i ≤ j → j ≤ p → c j h.found.0 ≡ 𝟘
            stays j g l =
                nothing_stays G slots Member p Z y c P i j h.found.0 g l (entering_is_listed slots h.found.0 X h.found.1) h.found.2

            not_before : (j d : ℕ) → enters_at slots d X ≡ true → c j d ≡ 𝟘 → Dec (j < i) → i ≤ j
            not_before j d e z (yes g) = absurd (h.before j g d e z)
            not_before j d e z (no g) = omega arith

    next_link : (choice : ℕ → Bool) → Covering slots Member choice ⊎ NextLink choice
    next_link choice = go (answers.largest choice)
      where
        go : Covering slots Member choice ⊎ ((X : ℕ) × GreatestUnentered slots choice Member X) → Covering slots Member choice ⊎ NextLink choice
        go (inl all) = inl all
        go (inr t) = inr (link_for choice t.0 t.1)

    link_of : (choice : ℕ → Bool) → Covering slots Member choice ⊎ NextLink choice → ℕ
    link_of choice (inl all) = 0
    link_of choice (inr s) = s.link

    for_set : (choice : ℕ → Bool) → Covering slots Member choice ⊎ NextLink choice → ℕ
    for_set choice (inl all) = 0
    for_set choice (inr s) = s.set

    -- the links chosen before each, for ever
    chosen : ℕ → ℕ → Bool
    chosen zero k = false
    chosen (suc t) k = eqb (link_of (chosen t) (next_link (chosen t))) k || chosen t k

    links : ℕ → ℕ
    links t = link_of (chosen t) (next_link (chosen t))

    for_sets : ℕ → ℕ
    for_sets t = for_set (chosen t) (next_link (chosen t))

    chosen_are_taken : (t k : ℕ) → chosen t k ≡ taken t links k
    unfolding chosen links
    chosen_are_taken zero k = refl
    chosen_are_taken (suc t) k = ap (λ (b : Bool). eqb (links t) k || b) (chosen_are_taken t k)

    CoversAt : ℕ → Type 0
    CoversAt t = Covering slots Member (taken t links)

    TakesAt : ℕ → Type 0
    TakesAt t = TakingStep G slots Member p c t links (links t) (for_sets t)

    -- a link for the greatest member that the first t of some links leave out
    step_of : (t : ℕ) (l : ℕ → ℕ) (choice : ℕ → Bool) → ((k : ℕ) → choice k ≡ taken t l k) → (s : NextLink choice)
        → TakingStep G slots Member p c t l s.link s.set
    step_of t l choice same s = record {
      member = s.greatest.member;
      unentered = λ u h e. s.greatest.unentered (l u, same (l u) ∙ is_taken t l u h, e);
      greatest = λ X m part free. is_it X m part free (ℕ_discrete s.set X);
      enters = s.enters;
      nothing_left = s.nothing_left;
      earliest = s.earliest;
    }
      where
        is_it : (X : ℕ) → Member X → Part s.set X → ((u : ℕ) → u < t → enters_at slots (l u) X ≡ true → ⊥) → Dec (s.set ≡ X) → X ≡ s.set
        is_it X m part free (yes e) = sym e
        is_it X m part free (no ne) =
            let k = s.greatest.greatest X m part ne in
            let u = taken_is t l k.0 (sym (same k.0) ∙ k.1) in
            absurd (free u.0 u.1 (subst (λ (x : ℕ). enters_at slots x X ≡ true) (sym u.2) k.2))

    covers_or_takes : (t : ℕ) → CoversAt t ⊎ TakesAt t
    unfolding CoversAt TakesAt links for_sets link_of for_set
    covers_or_takes t = go (chosen t) (chosen_are_taken t) (next_link (chosen t))
      where
        go : (choice : ℕ → Bool) → ((k : ℕ) → choice k ≡ taken t links k) → (a : Covering slots Member choice ⊎ NextLink choice)
            → Covering slots Member (taken t links) ⊎ TakingStep G slots Member p c t links (link_of choice a) (for_set choice a)
        go choice same (inl all) = inl (λ X m. let k = all X m in (k.0, sym (same k.0) ∙ k.1, k.2))
        go choice same (inr s) = inr (step_of t links choice same s)

    taking_to : (t : ℕ) → EachBelow t TakesAt → Taking G slots Member p c t links for_sets
    unfolding TakesAt
    taking_to t steps = taking_of_steps G slots Member p c t links for_sets steps

    pub second_stage : SecondStage G slots Member p c
    unfolding CoversAt
    second_stage = go (first_of CoversAt TakesAt covers_or_takes (suc (length slots)))
      where
        go : ((t : ℕ) × First (suc (length slots)) CoversAt TakesAt t) ⊎ EachBelow (suc (length slots)) TakesAt → SecondStage G slots Member p c
        go (inl (t, h)) = record { q = t; l = links; M = for_sets; taking = taking_to t h.before; covers = h.found }
        go (inr steps) =
            let T = taking_to (suc (length slots)) steps in
            let few = no_more_than (suc (length slots)) (length slots) links
            (λ t h. entering_is_listed slots (links t) (for_sets t) (T.enters t h))
            (links_differ G slots Member n F p c (suc (length slots)) links for_sets T) in
            absurd (omega arith)
