-- Amounts in general: an ordered abelian group, whose strict order is a test.
-- What else is used of it, that equals can be taken from both sides and that orders add up, follows from its laws.
use Rattle.std.proofs.Common.{◌≡◌, Bool, true, false, cond, sym, refl, ap, ◌∙◌, subst, true≢false}

-- `a` is at most `b` where `below b a ≡ false`
pub record Amounts : Type 1 where
  pub Amount : Type 0
  pub ◌⊕◌ : Amount → Amount → Amount
  pub ◌⊖◌ : Amount → Amount → Amount
  pub 𝟘 : Amount
  pub below : Amount → Amount → Bool
  pub commutative : (a b : Amount) → ◌⊕◌ a b ≡ ◌⊕◌ b a
  pub associative : (a b c : Amount) → ◌⊕◌ (◌⊕◌ a b) c ≡ ◌⊕◌ a (◌⊕◌ b c)
  pub with_nothing : (a : Amount) → ◌⊕◌ a 𝟘 ≡ a
  pub taken_and_added : (a b : Amount) → ◌⊕◌ (◌⊖◌ a b) b ≡ a
  pub irreflexive : (a : Amount) → below a a ≡ false
  pub transitive : (a b c : Amount) → below a b ≡ true → below b c ≡ true → below a c ≡ true
  pub not_below_transitive : (a b c : Amount) → below a b ≡ false → below b c ≡ false → below a c ≡ false
  pub total : (a b : Amount) → below a b ≡ false → below b a ≡ false → a ≡ b
  pub translation : (a b c : Amount) → below (◌⊕◌ a c) (◌⊕◌ b c) ≡ below a b

module _ (G : Amounts) where
  open G use {Amount, ◌⊕◌, ◌⊖◌, 𝟘, below, commutative, associative, with_nothing, taken_and_added, irreflexive, not_below_transitive, total, translation}

  infixl 65 ◌⊕◌
  infixl 65 ◌⊖◌
  -- ---- the group

  pub nothing_and : (a : Amount) → 𝟘 ⊕ a ≡ a
  nothing_and a = commutative 𝟘 a ∙ with_nothing a

  -- four terms of a sum, the middle two swapped
  pub middle_swap : (a b c d : Amount) → (a ⊕ b) ⊕ (c ⊕ d) ≡ (a ⊕ c) ⊕ (b ⊕ d)
  middle_swap a b c d =
      associative a b (c ⊕ d)
      ∙ ap (λ (x : Amount). a ⊕ x) (sym (associative b c d) ∙ ap (λ (x : Amount). x ⊕ d) (commutative b c) ∙ associative c b d)
      ∙ sym (associative a c (b ⊕ d))

  -- ---- the order

  pub not_below_itself : (a b : Amount) → a ≡ b → below a b ≡ false
  not_below_itself a b e = subst (λ (x : Amount). below a x ≡ false) e (irreflexive a)

  pub equal_both_ways : (a b : Amount) → a ≡ b → below b a ≡ false
  equal_both_ways a b e = not_below_itself b a (sym e)

  -- equal sums with one equal term have the other equal
  pub cancel : (a b c : Amount) → a ⊕ c ≡ b ⊕ c → a ≡ b
  cancel a b c e =
      total a b (sym (translation a b c) ∙ not_below_itself (a ⊕ c) (b ⊕ c) e)
      (sym (translation b a c) ∙ not_below_itself (b ⊕ c) (a ⊕ c) (sym e))

  pub cancel_to_nothing : (a c : Amount) → a ⊕ c ≡ c → a ≡ 𝟘
  cancel_to_nothing a c e = cancel a 𝟘 c (e ∙ sym (nothing_and c))

  pub added_and_taken : (a b : Amount) → (a ⊕ b) ⊖ b ≡ a
  added_and_taken a b = cancel ((a ⊕ b) ⊖ b) a b (taken_and_added (a ⊕ b) b)

  -- orders add up
  pub plus_mono : (a b c d : Amount) → below b a ≡ false → below d c ≡ false → below (b ⊕ d) (a ⊕ c) ≡ false
  plus_mono a b c d h k =
      not_below_transitive (b ⊕ d) (a ⊕ d) (a ⊕ c) (translation b a d ∙ h)
      (subst (λ (x : Amount). below x (a ⊕ c) ≡ false) (commutative d a)
      (subst (λ (x : Amount). below (d ⊕ a) x ≡ false) (commutative c a) (translation d c a ∙ k)))

  pub plus_not_below_nothing : (a b : Amount) → below a 𝟘 ≡ false → below b 𝟘 ≡ false → below (a ⊕ b) 𝟘 ≡ false
  plus_not_below_nothing a b h k =
      subst (λ (x : Amount). below (a ⊕ b) x ≡ false) (with_nothing 𝟘) (plus_mono 𝟘 a 𝟘 b h k)

  -- what is added is at most the sum
  pub more_with : (a b : Amount) → below b 𝟘 ≡ false → below (a ⊕ b) a ≡ false
  more_with a b h = subst (λ (x : Amount). below (a ⊕ b) x ≡ false) (with_nothing a) (plus_mono a a 𝟘 b (irreflexive a) h)

  pub less_without : (a b : Amount) → below a b ≡ false → below (a ⊖ b) 𝟘 ≡ false
  less_without a b h =
      sym (translation (a ⊖ b) 𝟘 b)
      ∙ subst (λ (x : Amount). below x (𝟘 ⊕ b) ≡ false) (sym (taken_and_added a b))
      (subst (λ (x : Amount). below a x ≡ false) (sym (nothing_and b)) h)

  pub is_nothing_or_not : (a : Amount) → Dec (a ≡ 𝟘)
  is_nothing_or_not a = go (below a 𝟘) (below 𝟘 a) refl refl
    where
      different : (x y : Bool) → below a 𝟘 ≡ x → below 𝟘 a ≡ y → (a ≡ 𝟘 → (x ≡ false) × (y ≡ false))
      different x y p q e = (sym p ∙ not_below_itself a 𝟘 e, sym q ∙ not_below_itself 𝟘 a (sym e))

      go : (x y : Bool) → below a 𝟘 ≡ x → below 𝟘 a ≡ y → Dec (a ≡ 𝟘)
      go false false p q = yes (total a 𝟘 p q)
      go true y p q = no (λ e. true≢false (different true y p q e).0)
      go false true p q = no (λ e. true≢false (different false true p q e).1)

  -- what is neither below nothing nor nothing is above it
  pub above_nothing : (a : Amount) → below a 𝟘 ≡ false → (a ≡ 𝟘 → ⊥) → below 𝟘 a ≡ true
  above_nothing a h ne = go (below 𝟘 a) refl
    where
      go : (b : Bool) → below 𝟘 a ≡ b → below 𝟘 a ≡ true
      go true e = e
      go false e = absurd (ne (total a 𝟘 h e))

  pub not_below_back : (a b : Amount) → below a b ≡ true → below b a ≡ false
  not_below_back a b h = go (below b a) refl
    where
      go : (x : Bool) → below b a ≡ x → below b a ≡ false
      go false e = e
      go true e = absurd (true≢false (sym (G.transitive a b a h e) ∙ irreflexive a))

  -- an amount, if a test is passed
  abbrev pub given : Bool → Amount → Amount
  given b a = cond b a 𝟘

  pub given_not_below_nothing : (b : Bool) (a : Amount) → below a 𝟘 ≡ false → below (given b a) 𝟘 ≡ false
  given_not_below_nothing true a h = h
  given_not_below_nothing false a h = irreflexive 𝟘
