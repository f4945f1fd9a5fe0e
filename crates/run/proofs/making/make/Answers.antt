use Rattle.std.proofs.Common.{rules, ◌≡◌, Err, refl}
use Rattle.run.proofs.making.make.Goals as goal

pub returns-in_err-install-in-Install-clause-made : goal.returns-in_err-install-in-Install-clause-made
returns-in_err-install-in-Install-clause-made g c =
    let refused : c.from_residual-in_err-install-in-Install.result ≡ Err c.in_err-install-in-Install.field-0.0 = search rules in
    rw (c.in-Install.is, refused) (record { refusal = c.in_err-install-in-Install.ensures.refusal; sheet = c.in_err-install-in-Install.ensures.holds; column = refl; became = refl })
