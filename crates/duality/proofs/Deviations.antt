-- How far two lists of prices lie apart, link by link, set against what two choices of links cost at each.
-- One equation for each link, by its place in the two choices, with a slack that is never below nothing; then sums.
use Rattle.std.proofs.Common.{◌≡◌, ℕ, ◌<◌, Bool, true, false, cond, sym, refl, ap, ◌∙◌, subst, ap₂}
use mathlib.Core.Bool.{false≢true}
use Rattle.duality.proofs.Amounts.{Amounts, given, nothing_and, cancel, added_and_taken, less_without, more_with, plus_mono, not_below_itself, not_below_back, equal_both_ways}
use Rattle.duality.proofs.Sums.{sum, sum_cong, sum_plus, sum_not_below_nothing, sum_nothing_each_nothing}

-- the difference of two amounts, in the order that is not below nothing
abbrev pub apart : (G : Amounts) → G.Amount → G.Amount → G.Amount
apart G a b = cond (G.below a b) (G.◌⊖◌ b a) (G.◌⊖◌ a b)

-- what prices w do that lie no farther from v than they must, with the choices F and L of the first m links
pub record NoSlack (G : Amounts) (F L : ℕ → Bool) (w v : ℕ → G.Amount) (m : ℕ) : Type 0 where
  pub costs_equal : sum G (λ k. cond (L k) (w k) G.𝟘) m ≡ sum G (λ k. cond (F k) (w k) G.𝟘) m
  pub unchanged_in_both_or_neither : (k : ℕ) → k < m → F k ≡ L k → w k ≡ v k
  pub first_not_raised : (k : ℕ) → k < m → F k ≡ true → G.below (v k) (w k) ≡ false
  pub second_not_lowered : (k : ℕ) → k < m → L k ≡ true → G.below (w k) (v k) ≡ false

-- what the difference of a price a from a price b leaves over, by whether the link is in a first choice and in a second
abbrev pub slack : (G : Amounts) → Bool → Bool → G.Amount → G.Amount → G.Amount
slack G true true a b = apart G a b
slack G true false a b = G.◌⊖◌ (G.◌⊕◌ (apart G a b) a) b
slack G false true a b = G.◌⊖◌ (G.◌⊕◌ (apart G a b) b) a
slack G false false a b = apart G a b

module _ (G : Amounts) where
  open G use {Amount, ◌⊕◌, ◌⊖◌, 𝟘, below, associative, commutative, with_nothing, taken_and_added, irreflexive, not_below_transitive, translation, total}

  infixl 65 ◌⊕◌
  infixl 65 ◌⊖◌
  last_two_swapped : (x y z : Amount) → (x ⊕ y) ⊕ z ≡ (x ⊕ z) ⊕ y
  last_two_swapped x y z = associative x y z ∙ ap (λ (u : Amount). x ⊕ u) (commutative y z) ∙ sym (associative x z y)

  pub not_below_without : (a b d : Amount) → below (a ⊕ b) d ≡ false → below a (d ⊖ b) ≡ false
  not_below_without a b d h =
      sym (translation a (d ⊖ b) b) ∙ subst (λ (z : Amount). below (a ⊕ b) z ≡ false) (sym (taken_and_added d b)) h

  pub is_without : (a b d : Amount) → a ⊕ b ≡ d → a ≡ d ⊖ b
  is_without a b d e = sym (added_and_taken G a b) ∙ ap (λ (z : Amount). z ⊖ b) e

  -- ---- one link

  apart_by : (a b : Amount) (x : Bool) → below a b ≡ x → below (cond x (b ⊖ a) (a ⊖ b)) 𝟘 ≡ false
  apart_by a b true e = less_without G b a (not_below_back G a b e)
  apart_by a b false e = less_without G a b e

  pub apart_not_below_nothing : (a b : Amount) → below (apart G a b) 𝟘 ≡ false
  apart_not_below_nothing a b = apart_by a b (below a b) refl

  -- the lower price with the difference is the higher
  pub apart_from_lower : (a b : Amount) → below b a ≡ false → apart G a b ⊕ a ≡ b
  apart_from_lower a b h = go (below a b) refl
    where
      go : (x : Bool) → below a b ≡ x → cond x (b ⊖ a) (a ⊖ b) ⊕ a ≡ b
      go true e = taken_and_added b a
      go false e = let same = total a b e h in ap (λ (z : Amount). (a ⊖ b) ⊕ z) same ∙ taken_and_added a b ∙ same

  pub apart_symmetric : (a b : Amount) → apart G a b ≡ apart G b a
  apart_symmetric a b = go (below a b) (below b a) refl refl
    where
      go : (x y : Bool) → below a b ≡ x → below b a ≡ y → cond x (b ⊖ a) (a ⊖ b) ≡ cond y (a ⊖ b) (b ⊖ a)
      go true true e f = absurd (false≢true (sym (not_below_back G a b e) ∙ f))
      go true false e f = refl
      go false true e f = refl
      go false false e f = ap₂ ◌⊖◌ (total a b e f) (sym (total a b e f))

  -- either price with the difference is no less than the other
  pub apart_reaches : (a b : Amount) → below (apart G a b ⊕ a) b ≡ false
  apart_reaches a b = go (below a b) refl
    where
      go : (x : Bool) → below a b ≡ x → below (cond x (b ⊖ a) (a ⊖ b) ⊕ a) b ≡ false
      go true e = not_below_itself G ((b ⊖ a) ⊕ a) b (taken_and_added b a)
      go false e =
          not_below_transitive ((a ⊖ b) ⊕ a) a b
          (subst (λ (z : Amount). below z a ≡ false) (commutative a (a ⊖ b)) (more_with G a (a ⊖ b) (less_without G a b e))) e

  pub apart_reaches_back : (a b : Amount) → below (apart G a b ⊕ b) a ≡ false
  apart_reaches_back a b = subst (λ (z : Amount). below (z ⊕ b) a ≡ false) (apart_symmetric b a) (apart_reaches b a)

  pub not_apart_is_equal : (a b : Amount) → apart G a b ≡ 𝟘 → a ≡ b
  not_apart_is_equal a b e =
      total a b
      (subst (λ (z : Amount). below z b ≡ false) (ap (λ (d : Amount). d ⊕ a) e ∙ nothing_and G a) (apart_reaches a b))
      (subst (λ (z : Amount). below z a ≡ false) (ap (λ (d : Amount). d ⊕ b) e ∙ nothing_and G b) (apart_reaches_back a b))

  pub slack_not_below_nothing : (f l : Bool) (a b : Amount) → below (slack G f l a b) 𝟘 ≡ false
  slack_not_below_nothing true true a b = apart_not_below_nothing a b
  slack_not_below_nothing true false a b = less_without G (apart G a b ⊕ a) b (apart_reaches a b)
  slack_not_below_nothing false true a b = less_without G (apart G a b ⊕ b) a (apart_reaches_back a b)
  slack_not_below_nothing false false a b = apart_not_below_nothing a b

  -- the difference, and the link at price a if in the first choice and at price b if in the second
  pub link_by_link : (f l : Bool) (a b : Amount)
      → (apart G a b ⊕ given G f a) ⊕ given G l b ≡ (given G f b ⊕ given G l a) ⊕ slack G f l a b
  link_by_link true true a b =
      associative (apart G a b) a b ∙ commutative (apart G a b) (a ⊕ b) ∙ ap (λ (z : Amount). z ⊕ apart G a b) (commutative a b)
  link_by_link true false a b =
      with_nothing (apart G a b ⊕ a) ∙ sym (taken_and_added (apart G a b ⊕ a) b)
      ∙ commutative ((apart G a b ⊕ a) ⊖ b) b ∙ ap (λ (z : Amount). z ⊕ ((apart G a b ⊕ a) ⊖ b)) (sym (with_nothing b))
  link_by_link false true a b =
      ap (λ (z : Amount). z ⊕ b) (with_nothing (apart G a b)) ∙ sym (taken_and_added (apart G a b ⊕ b) a)
      ∙ commutative ((apart G a b ⊕ b) ⊖ a) a ∙ ap (λ (z : Amount). z ⊕ ((apart G a b ⊕ b) ⊖ a)) (sym (nothing_and G a))
  link_by_link false false a b =
      with_nothing (apart G a b ⊕ 𝟘) ∙ commutative (apart G a b) 𝟘 ∙ ap (λ (z : Amount). z ⊕ apart G a b) (sym (with_nothing 𝟘))

  taken_to_nothing : (a b : Amount) → a ⊖ b ≡ 𝟘 → a ≡ b
  taken_to_nothing a b e = sym (taken_and_added a b) ∙ ap (λ (z : Amount). z ⊕ b) e ∙ nothing_and G b

  without_slack_unchanged : (f l : Bool) (a b : Amount) → slack G f l a b ≡ 𝟘 → f ≡ l → a ≡ b
  without_slack_unchanged true true a b e same = not_apart_is_equal a b e
  without_slack_unchanged true false a b e same = absurd (false≢true (sym same))
  without_slack_unchanged false true a b e same = absurd (false≢true same)
  without_slack_unchanged false false a b e same = not_apart_is_equal a b e

  without_slack_not_raised : (f l : Bool) (a b : Amount) → slack G f l a b ≡ 𝟘 → f ≡ true → below b a ≡ false
  without_slack_not_raised true true a b e h = equal_both_ways G a b (not_apart_is_equal a b e)
  without_slack_not_raised true false a b e h =
      subst (λ (z : Amount). below z a ≡ false) (commutative a (apart G a b) ∙ taken_to_nothing (apart G a b ⊕ a) b e)
      (more_with G a (apart G a b) (apart_not_below_nothing a b))
  without_slack_not_raised false l a b e h = absurd (false≢true h)

  without_slack_not_lowered : (f l : Bool) (a b : Amount) → slack G f l a b ≡ 𝟘 → l ≡ true → below a b ≡ false
  without_slack_not_lowered true true a b e h = not_below_itself G a b (not_apart_is_equal a b e)
  without_slack_not_lowered false true a b e h =
      subst (λ (z : Amount). below z b ≡ false) (commutative b (apart G a b) ∙ taken_to_nothing (apart G a b ⊕ b) a e)
      (more_with G b (apart G a b) (apart_not_below_nothing a b))
  without_slack_not_lowered f false a b e h = absurd (false≢true h)

  -- ---- all links

  module _ (F L : ℕ → Bool) (w v : ℕ → Amount) (m : ℕ) where
    pub deviation_by_slack :
        (sum G (λ k. apart G (w k) (v k)) m ⊕ sum G (λ k. given G (F k) (w k)) m) ⊕ sum G (λ k. given G (L k) (v k)) m
        ≡ (sum G (λ k. given G (F k) (v k)) m ⊕ sum G (λ k. given G (L k) (w k)) m) ⊕ sum G (λ k. slack G (F k) (L k) (w k) (v k)) m
    deviation_by_slack =
        sym (three (λ k. apart G (w k) (v k)) (λ k. given G (F k) (w k)) (λ k. given G (L k) (v k)))
        ∙ sum_cong G (λ k. (apart G (w k) (v k) ⊕ given G (F k) (w k)) ⊕ given G (L k) (v k))
        (λ k. (given G (F k) (v k) ⊕ given G (L k) (w k)) ⊕ slack G (F k) (L k) (w k) (v k)) m (λ k h. link_by_link (F k) (L k) (w k) (v k))
        ∙ three (λ k. given G (F k) (v k)) (λ k. given G (L k) (w k)) (λ k. slack G (F k) (L k) (w k) (v k))
      where
        three : (f g h : ℕ → Amount) → sum G (λ k. (f k ⊕ g k) ⊕ h k) m ≡ (sum G f m ⊕ sum G g m) ⊕ sum G h m
        three f g h = sum_plus G (λ k. f k ⊕ g k) h m ∙ ap (λ (z : Amount). z ⊕ sum G h m) (sum_plus G f g m)

    slack_sum_not_below_nothing : below (sum G (λ k. slack G (F k) (L k) (w k) (v k)) m) 𝟘 ≡ false
    slack_sum_not_below_nothing =
        sum_not_below_nothing G (λ k. slack G (F k) (L k) (w k) (v k)) m (λ k h. slack_not_below_nothing (F k) (L k) (w k) (v k))

    -- where the second choice costs no less than the first at prices w, these lie as far from v as the first costs more than the second at v
    module _ (no_less : below (sum G (λ k. given G (L k) (w k)) m) (sum G (λ k. given G (F k) (w k)) m) ≡ false) where
      pub deviation_not_below_difference :
          below (sum G (λ k. apart G (w k) (v k)) m ⊕ sum G (λ k. given G (L k) (v k)) m) (sum G (λ k. given G (F k) (v k)) m) ≡ false
      deviation_not_below_difference =
          bound (sum G (λ k. apart G (w k) (v k)) m) (sum G (λ k. given G (F k) (w k)) m) (sum G (λ k. given G (L k) (v k)) m)
          (sum G (λ k. given G (F k) (v k)) m) (sum G (λ k. given G (L k) (w k)) m) (sum G (λ k. slack G (F k) (L k) (w k) (v k)) m)
          deviation_by_slack no_less slack_sum_not_below_nothing
        where
          bound : (d fw lv fv lw s : Amount) → (d ⊕ fw) ⊕ lv ≡ (fv ⊕ lw) ⊕ s → below lw fw ≡ false → below s 𝟘 ≡ false → below (d ⊕ lv) fv ≡ false
          bound d fw lv fv lw s e h g =
              sym (translation (d ⊕ lv) fv fw)
              ∙ subst (λ (z : Amount). below z (fv ⊕ fw) ≡ false) (sym (last_two_swapped d lv fw ∙ e))
              (not_below_transitive ((fv ⊕ lw) ⊕ s) (fv ⊕ lw) (fv ⊕ fw) (more_with G (fv ⊕ lw) s g) (plus_mono G fv fv fw lw (irreflexive fv) h))

      -- and only prices with no slack lie as near as that
      pub nearest_has_no_slack :
          sum G (λ k. apart G (w k) (v k)) m ⊕ sum G (λ k. given G (L k) (v k)) m ≡ sum G (λ k. given G (F k) (v k)) m → NoSlack G F L w v m
      nearest_has_no_slack nearest = record {
        costs_equal = none.1;
        unchanged_in_both_or_neither = λ k h. without_slack_unchanged (F k) (L k) (w k) (v k) (each k h);
        first_not_raised = λ k h. without_slack_not_raised (F k) (L k) (w k) (v k) (each k h);
        second_not_lowered = λ k h. without_slack_not_lowered (F k) (L k) (w k) (v k) (each k h);
      }
        where
          exact : (d fw lv fv lw s : Amount) → (d ⊕ fw) ⊕ lv ≡ (fv ⊕ lw) ⊕ s → below lw fw ≡ false → below s 𝟘 ≡ false → d ⊕ lv ≡ fv
              → (s ≡ 𝟘) × (lw ≡ fw)
          exact d fw lv fv lw s e h g near = (nothing, sym (more ∙ ap (λ (z : Amount). lw ⊕ z) nothing ∙ with_nothing lw))
            where
              more : fw ≡ lw ⊕ s
              more = cancel G fw (lw ⊕ s) fv
                  (ap (λ (z : Amount). fw ⊕ z) (sym near) ∙ commutative fw (d ⊕ lv) ∙ last_two_swapped d lv fw ∙ e ∙ associative fv lw s ∙ commutative fv (lw ⊕ s))

              nothing : s ≡ 𝟘
              nothing = total s 𝟘 g
                  (sym (translation 𝟘 s lw) ∙ subst (λ (z : Amount). below z (s ⊕ lw) ≡ false) (sym (nothing_and G lw))
                  (subst (λ (z : Amount). below lw z ≡ false) (more ∙ commutative lw s) h))

          none : (sum G (λ k. slack G (F k) (L k) (w k) (v k)) m ≡ 𝟘) × (sum G (λ k. given G (L k) (w k)) m ≡ sum G (λ k. given G (F k) (w k)) m)
          none = exact (sum G (λ k. apart G (w k) (v k)) m) (sum G (λ k. given G (F k) (w k)) m) (sum G (λ k. given G (L k) (v k)) m)
              (sum G (λ k. given G (F k) (v k)) m) (sum G (λ k. given G (L k) (w k)) m) (sum G (λ k. slack G (F k) (L k) (w k) (v k)) m)
              deviation_by_slack no_less slack_sum_not_below_nothing nearest

          each : (k : ℕ) → k < m → slack G (F k) (L k) (w k) (v k) ≡ 𝟘
          each = sum_nothing_each_nothing G (λ k. slack G (F k) (L k) (w k) (v k)) m (λ k h. slack_not_below_nothing (F k) (L k) (w k) (v k)) none.0
