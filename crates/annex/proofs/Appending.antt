-- Bytes appended in several steps are appended as one, and room for all of them is room for each step.
-- The rest of what is being appended is named, and not what is there already.
use Rattle.std.proofs.Common.{◌≡◌, ℕ, zero, suc, ◌+◌, ◌<◌, ◌≤◌, List, [], ◌∷◌, ◌++◌, length, take, drop, set, sym, refl, ap, ap₂, ◌∙◌, arith, append_assoc, append-nil, add-zero, add_assoc, add-one, suc-add, zero-add, length-append, take-append-drop, drop_of_length-le, take_all, drop-drop}
use Rattle.std.proofs.lemmas.Grind.{common_steps}
use lib.Seq.{take-append_seam, drop-append-add, drop-nil, set_split}
use Rattle.annex.specs.Lines.{laid}
use Rattle.annex.specs.Places.{written, HasRoom, Appends}
use Rattle.annex.specs.declared.text.Text.{Text}

-- up to the place behind, a written text is its front and what was written
pub take_written : (t : List ℕ) (at : ℕ) (bs : List ℕ) → take (at + length bs) (written t at bs) ≡ take at t ++ bs
take_written t zero bs = rw zero-add (take-append_seam bs (drop (length bs) t))
take_written [] (suc at) bs =
    rw (drop-nil (suc at + length bs), append-nil bs) (take_all (suc at + length bs) bs (omega arith))
take_written (x ∷ t) (suc at) bs = rw (suc-add at (length bs)) (ap (λ l. x ∷ l) (take_written t at bs))

-- behind it, the text is as it was
pub drop_written : (t : List ℕ) (at : ℕ) (bs : List ℕ) (k : ℕ) → drop (at + length bs + k) (written t at bs) ≡ drop (at + length bs + k) t
drop_written t zero bs k =
    rw zero-add (drop-append-add bs (drop (length bs) t) k ∙ drop-drop k (length bs) t)
drop_written [] (suc at) bs k =
    rw (drop-nil (suc at + length bs), append-nil bs)
    (drop_of_length-le bs (omega arith) ∙ sym (drop-nil (suc at + length bs + k)))
drop_written (x ∷ t) (suc at) bs k =
    rw (suc-add at (length bs), suc-add (at + length bs) k) (drop_written t at bs k)

-- two writes, the second behind the first, are one
pub written_then : (t : List ℕ) (at : ℕ) (bs cs : List ℕ) → written (written t at bs) (at + length bs) cs ≡ written t at (bs ++ cs)
written_then t at bs cs =
    rw (take_written t at bs, drop_written t at bs (length cs), length-append bs cs, ← add_assoc at (length bs) (length cs))
    (append_assoc (take at t) bs _ ∙ ap (λ l. take at t ++ l) (sym (append_assoc bs cs _)))

-- one byte set is one byte written
pub written_byte : (t : List ℕ) (at b : ℕ) → at < length t → set t at b ≡ written t at (b ∷ [])
written_byte t at b h = rw add-one (set_split t at b h)

-- what is written from the first byte on is laid there
pub written_at_start : (t line : List ℕ) → written t 0 line ≡ laid line t
written_at_start t line = rw zero-add refl

-- nothing appended
pub appends_nothing : (s : Text) → Appends s [] s
appends_nothing s =
    record {
      bytes = rw add-zero (sym (take-append-drop s.at s.bytes.now));
      size = refl;
      next = sym (add-zero s.at);
      same_buffer = refl;
    }

-- two appends, the second behind the first, are one
pub appends_then : {s t u : Text} (bs cs : List ℕ) → Appends s bs t → Appends t cs u → Appends s (bs ++ cs) u
appends_then {s} bs cs p q =
    record {
      bytes = q.bytes ∙ ap₂ (λ l k. written l k cs) p.bytes p.next ∙ written_then s.bytes.now s.at bs cs;
      size = q.size ∙ p.size;
      next = q.next ∙ simp length-append (omega arith);
      same_buffer = q.same_buffer ∙ p.same_buffer;
    }

-- room for k bytes is room for no more than k
pub room_within : (s : Text) (bs : List ℕ) (k : ℕ) → length bs ≤ k → s.at + k ≤ length s.bytes.now → HasRoom s bs
room_within s bs k short room = omega arith

-- `whole` is being appended to `s`: `t` is the text by now, with room for the `rest`, which completes it
pub record Under_way (s : Text) (whole : List ℕ) (t : Text) (rest : List ℕ) : Type 0 where
  pub room : HasRoom t rest
  pub completes : (u : Text) → Appends t rest u → Appends s whole u

pub begun : {s : Text} {whole : List ℕ} → HasRoom s whole → Under_way s whole s whole
begun room = record { room = room; completes = λ u p. p }

-- the next of the rest appended
pub gone_on : {s t u : Text} {whole : List ℕ} (bs cs : List ℕ) → Under_way s whole t (bs ++ cs) → Appends t bs u → Under_way s whole u cs
gone_on bs cs w p =
    record {
      room = omega (arith, length-append bs cs, w.room, p.next, p.size);
      completes = λ v q. w.completes v (appends_then bs cs p q);
    }

pub done : {s t : Text} {whole : List ℕ} → Under_way s whole t [] → Appends s whole t
done {t = t} w = w.completes t (grind (arith, common_steps))
