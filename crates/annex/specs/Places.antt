-- Bytes written at a place of a text: what the text is then, and where the next byte goes.
use Rattle.std.specs.Prelude.{◌≡◌, ℕ, ◌+◌, ◌≤◌, List, ◌++◌, length, take, drop}
use Rattle.annex.specs.declared.text.Text.{Text}

-- the text `t` with `bs` in place of as many of its bytes from `at` on
abbrev pub written : List ℕ → ℕ → List ℕ → List ℕ
written t at bs = take at t ++ (bs ++ drop (at + length bs) t)

-- there is room for `bs` behind what is written
abbrev pub HasRoom : Text → List ℕ → Type 0
HasRoom s bs = s.at + length bs ≤ length s.bytes.now

-- `bs` written into `s` at its place: `t` is the text then, the same buffer, as long as it was, with its place behind `bs`
pub record Appends (s : Text) (bs : List ℕ) (t : Text) : Type 0 where
  pub bytes : t.bytes.now ≡ written s.bytes.now s.at bs
  pub size : length t.bytes.now ≡ length s.bytes.now
  pub next : t.at ≡ s.at + length bs
  pub same_buffer : t.bytes.ghost_name ≡ s.bytes.ghost_name
