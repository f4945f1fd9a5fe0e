-- What is appended is the text of the number. The check finds this by itself; it stands here for the edits of `push_number`,
-- which turn these lines along, so that the right pieces would be proved and the wrong ones are refused for what they are.
use Rattle.std.proofs.Common.{◌≡◌, subst, ◌∙◌}
use Rattle.annex.specs.Places.{Appends}
use Rattle.annex.proofs.text.Text.push_number.Goals as goal

pub returns : goal.returns
returns g c = subst (λ bs. Appends c.args.self.now bs c.push_bytes.new.self) (c.as_bytes.ensures.value ∙ c.format.ensures.text) c.push_bytes.ensures
