use Rattle.cuts.proofs.Extremes.{feed_entered_or_least, feed_entered_or_greatest}
use Rattle.cuts.proofs.feed_questions_have_answers.Goals as goal

pub returns : goal.returns
returns c n slots choice = record { smallest = feed_entered_or_least n slots choice; largest = feed_entered_or_greatest n slots choice }
