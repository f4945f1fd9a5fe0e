-- What a history shows, one call on: by the kind of the call, and whether it was accepted.
use Rattle.std.proofs.Common.{◌≡◌, ℕ, suc, true, List, ◌++◌, length, ℤ, is_some, Some, None, Ok, Err, sym, refl, ◌∙◌, inl, inr, ⊎_elim, arith}
use Rattle.std.specs.List.{slice_get}
use Rattle.std.proofs.lemmas.List.{length-map, length-set}
use Rattle.std.proofs.lemmas.Bool.Decides.{nat_tests}
use Rattle.digraph.specs.Links.{link_at}
use Rattle.digraph.specs.declared.link.Link.{Link}
use Rattle.refusal.proofs.Firsts.{first_of_front, first_of_back, none_retold}
use Rattle.refusal.specs.Checks.{Check, first, retold}
use Rattle.refusal.specs.Conversions.{refusal_of_link}
use Rattle.refusal.specs.declared.Refusal.{Refusal}
use Rattle.sheet.specs.Calls.{column_checks, link_checks, reprice_checks, withdraw_checks}
use Rattle.sheet.specs.Held.{Held}
use Rattle.sheet.proofs.Keeping.{none_from_test}
use Rattle.sheet.proofs.Columns.{passed_column_is_sized, passed_link_is_numbered, link_is_numbered}
use Rattle.stages.proofs.Lawful.{some_or_none}
use Rattle.run.specs.States.{State}
use Rattle.run.specs.History.{Outcome, AcceptedAt, Shows}
use Rattle.run.specs.Made.{Kinds, RefusedBy, prices_of, sheet_after, column_after}
use Rattle.run.specs.declared.calls.Answer.{Answer}
use Rattle.run.specs.declared.calls.Call.{Call}
use Rattle.run.specs.declared.calls.Call.TheVariants.{Add, Reprice, Withdraw, Install, Quote, Cover}
use Rattle.run.proofs.Histories.{links_untouched, links_added, links_withdrawn, tree_untouched, tree_installed, column_untouched, column_priced}

-- ---- checks that passed

none_in_both : {E : Type 0} (cs ds : List (Check E)) → first (cs ++ ds) ≡ None → (first cs ≡ None) × (first ds ≡ None)
none_in_both cs ds e =
    ⊎_elim (λ (why, fails). let both = first_of_front cs ds why fails in cc) (λ passed. (passed, sym (first_of_back cs ds passed) ∙ e)) (some_or_none (first cs))

link_is_new : (h : Held) (k tail head : ℕ) (p : List ℤ) → first (link_checks h k tail head p) ≡ None → link_at h.links k ≡ None
link_is_new h k tail head p e = none_from_test (link_at h.links k) (grind (arith, nat_tests))

repriced_is_link : (h : Held) (ps : List (List ℤ)) (k : ℕ) (p : List ℤ) → first (reprice_checks h ps k p) ≡ None → (first (column_checks h ps) ≡ None) × (is_some (link_at h.links k) ≡ true)
repriced_is_link h ps k p e = (grind (arith, nat_tests), grind (arith, nat_tests))

withdrawn_is_link : (h : Held) (ps : List (List ℤ)) (k : ℕ) → first (withdraw_checks h ps k) ≡ None → is_some (link_at h.links k) ≡ true
withdrawn_is_link h ps k e = grind (arith, nat_tests)

-- ---- one call on

module _ {T F : Type 0} (K : Kinds T F) (calls : List (Call T F)) (outcomes : List (Outcome T)) (i : ℕ) (stations : ℕ) (begin : List T) (s : State T)
    (shown : Shows calls outcomes stations begin i s.sheet s.column) where
  -- where no add, reprice, withdraw or install was accepted, all stays
  unchanged : ((k : ℕ) (l : Link) (p : T) → AcceptedAt calls outcomes i (Add k l p) → ⊥) → ((k : ℕ) (p : T) → AcceptedAt calls outcomes i (Reprice k p) → ⊥)
      → ((k : ℕ) → AcceptedAt calls outcomes i (Withdraw k) → ⊥) → ((lent : _) → AcceptedAt calls outcomes i (Install lent) → ⊥)
      → Shows calls outcomes stations begin (suc i) s.sheet s.column
  unchanged a r w t =
      record {
        stations_are = shown.stations_are;
        place_for_each_number = shown.place_for_each_number;
        links = links_untouched calls outcomes i s.sheet.links shown.links (λ k l (p, at). a k l p at) w;
        tree = tree_untouched calls outcomes i s.sheet.tree shown.tree (λ list (lent, same, at). t lent at);
        prices = column_untouched calls outcomes i begin s.column shown.prices (λ k p at. ⊎_elim (λ (l, at). a k l p at) (r k p) at);
      }

  pub refused_shows : (why : Refusal) → slice_get outcomes i ≡ Some (Err why) → Shows calls outcomes stations begin (suc i) s.sheet s.column
  refused_shows why refused = unchanged (λ k l p at. cc) (λ k p at. cc) (λ k at. cc) (λ lent at. cc)

  module _ (answer : Answer T) (accepted : slice_get outcomes i ≡ Some (Ok answer)) where
    column_long : first (column_checks s.sheet (prices_of K s)) ≡ None → length s.column ≡ 200
    column_long e = sym (length-map s.column K.parts) ∙ passed_column_is_sized s.sheet (prices_of K s) e

    -- the call of place i was accepted, and it is the one that was
    here : (c : Call T F) → slice_get calls i ≡ Some c → AcceptedAt calls outcomes i c
    here c this = record { made = this; answer = answer; accepted = accepted }

    pub accepted_shows : (call : Call T F) → slice_get calls i ≡ Some call → RefusedBy K s call None → Shows calls outcomes stations begin (suc i) (sheet_after K s call) (column_after K s call)
    accepted_shows (Add k l price) this passed =
        let checks = link_checks s.sheet k l.tail l.head (K.parts price) in
        let both = none_in_both (column_checks s.sheet (prices_of K s)) (retold refusal_of_link checks) (sym passed) in
        let free = none_retold refusal_of_link checks both.1 in
        let small = passed_link_is_numbered s.sheet k l.tail l.head (K.parts price) free in
        record {
          stations_are = shown.stations_are;
          place_for_each_number = length-set s.sheet.links k (Some l) ∙ shown.place_for_each_number;
          links = links_added calls outcomes i s.sheet.links shown.links k (omega (arith, small, shown.place_for_each_number)) l
              (link_is_new s.sheet k l.tail l.head (K.parts price) free) (price, here (Add k l price) this) (λ j m (p, at). (cc, cc)) (λ j at. cc);
          tree = tree_untouched calls outcomes i s.sheet.tree shown.tree (λ list (lent, same, at). cc);
          prices = column_priced calls outcomes i begin s.column shown.prices k price (omega (arith, small, column_long both.0)) (inl (l, here (Add k l price) this))
              (λ j p at. ⊎_elim (λ (m, at). (cc, cc)) (λ at. cc) at);
        }
    accepted_shows (Reprice k price) this passed =
        let both = repriced_is_link s.sheet (prices_of K s) k (K.parts price) (sym passed) in
        record {
          stations_are = shown.stations_are;
          place_for_each_number = shown.place_for_each_number;
          links = links_untouched calls outcomes i s.sheet.links shown.links (λ j m (p, at). cc) (λ j at. cc);
          tree = tree_untouched calls outcomes i s.sheet.tree shown.tree (λ list (lent, same, at). cc);
          prices = column_priced calls outcomes i begin s.column shown.prices k price
              (omega (arith, link_is_numbered s.sheet.links k both.1, shown.place_for_each_number, column_long both.0)) (inr (here (Reprice k price) this))
              (λ j p at. ⊎_elim (λ (m, at). cc) (λ at. (cc, cc)) at);
        }
    accepted_shows (Withdraw k) this passed =
        let named = withdrawn_is_link s.sheet (prices_of K s) k (sym passed) in
        record {
          stations_are = shown.stations_are;
          place_for_each_number = length-set s.sheet.links k None ∙ shown.place_for_each_number;
          links = links_withdrawn calls outcomes i s.sheet.links shown.links k (link_is_numbered s.sheet.links k named) (here (Withdraw k) this) (λ j at. cc) (λ j m (p, at). cc);
          tree = tree_untouched calls outcomes i s.sheet.tree shown.tree (λ list (lent, same, at). cc);
          prices = column_untouched calls outcomes i begin s.column shown.prices (λ j p at. ⊎_elim (λ (m, at). cc) (λ at. cc) at);
        }
    accepted_shows (Install lent) this passed =
        record {
          stations_are = shown.stations_are;
          place_for_each_number = shown.place_for_each_number;
          links = links_untouched calls outcomes i s.sheet.links shown.links (λ j m (p, at). cc) (λ j at. cc);
          tree = tree_installed calls outcomes i lent.now (lent, refl, here (Install lent) this) (λ list (other, same, at). cc);
          prices = column_untouched calls outcomes i begin s.column shown.prices (λ j p at. ⊎_elim (λ (m, at). cc) (λ at. cc) at);
        }
    accepted_shows Quote this passed = unchanged (λ k l p at. cc) (λ k p at. cc) (λ k at. cc) (λ lent at. cc)
    accepted_shows (Cover f) this passed = unchanged (λ k l p at. cc) (λ k p at. cc) (λ k at. cc) (λ lent at. cc)
