-- The order of a `UsedUp` is all that its array and its count hold, as behind the numbers stand zeros:
-- so two with the same marks and the same order are equal. By the places, before the count and behind it.
use Rattle.std.proofs.Common.{◌≡◌, ℕ, ◌<◌, length, get_or, take, sym, ap, ◌∙◌, ⊎_elim, arith}
use Rattle.std.proofs.lemmas.Bool.{cases_lt}
use Rattle.std.proofs.lemmas.List.{ext_get_or, get_or-take, length-take-le}
use Rattle.remainders.specs.declared.used_up.UsedUp.{UsedUp}

-- as many numbers were noted as the count says
count_is_length : (u : UsedUp) → length (take u.count u.order) ≡ u.count
count_is_length u = length-take-le u.count u.order (omega (arith, u.long, u.room))

pub same_order_same_array : (a b : UsedUp) → take a.count a.order ≡ take b.count b.order → (a.order ≡ b.order) × (a.count ≡ b.count)
same_order_same_array a b same = (ext_get_or 0 a.order b.order (a.long ∙ sym b.long) at_place, counts)
  where
    counts : a.count ≡ b.count
    counts = sym (count_is_length a) ∙ ap length same ∙ count_is_length b

    at_place : (i : ℕ) → i < length a.order → get_or a.order i 0 ≡ get_or b.order i 0
    at_place i h =
        ⊎_elim
        (λ noted. sym (get_or-take a.count a.order i 0 noted) ∙ ap (λ l. get_or l i 0) same ∙ get_or-take b.count b.order i 0 (omega (arith, counts)))
        (λ behind. a.clear i behind ∙ sym (b.clear i (omega (arith, counts))))
        (cases_lt i a.count)
