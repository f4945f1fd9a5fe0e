-- Each turn makes one call more; at the end the run so far is the whole run.
use Rattle.std.proofs.Common.{◌≡◌, length, sym, refl, ap, ◌∙◌, arith, rules}
use Rattle.std.proofs.lemmas.Option.{slice_get_read}
use Rattle.run.specs.States.{at_first}
use Rattle.run.proofs.Chains.{none_made, one_more_made, run_is_lawful}
use Rattle.run.proofs.season.make_all.Goals as goal

pub loop-i-init : goal.loop-i-init
loop-i-init g c = record { so_far = none_made _ _ _ _ _ _ (ap (λ h. record (at_first 0 c.args.prices.now c.args.memory.now) { sheet = h }) (sym c.requires.opened)); same_memory = search rules }

pub loop-i-preserved : goal.loop-i-preserved
loop-i-preserved g c =
    let this = slice_get_read c.args.calls.now _ c.loop-i.i c.index-calls-i.result refl c.loop-i-test.true c.index-calls-i.is in
    record { so_far = one_more_made _ _ _ _ _ _ _ c.loop-i.invariant.so_far _ this _ _ c.make.ensures.made; same_memory = search rules }

pub returns-clause-season : goal.returns-clause-season
returns-clause-season g c =
    let all_made : c.loop-i.i ≡ length c.args.calls.now = omega arith in
    run_is_lawful _ _ _ _ _ c.args.memory.now _ _ (c.loop-i.auto.outcomes ∙ c.requires.as_many) (rw all_made at c.loop-i.invariant.so_far)
