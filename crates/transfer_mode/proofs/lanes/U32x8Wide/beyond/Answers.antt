use Rattle.std.proofs.Common.{ℕ, ◌+◌, ◌-◌, ◌%◌, ltb, ap, max, ◌∙◌, w32}
use mir.Val.{Fits}
use lib.Lanes.{zip2, sel_l}
use Rattle.std.proofs.lemmas.Simd.{tops_compared}
use Rattle.transfer_mode.proofs.Eights.{sel_second, greatest_is, beyond_second, beyond_32}
use Rattle.transfer_mode.proofs.lanes.U32x8Wide.beyond.Goals as goal

pub returns : goal.returns
returns c =
    let is = ap (λ ms. sel_l ms c.args.other c.args.self) (tops_compared w32 ltb c.args.self c.args.other) ∙ sel_second ltb max greatest_is c.args.self c.args.other in
    ap (λ v. zip2 (λ (x y : ℕ). (x + (4294967296 - y)) % 4294967296) v c.args.other) is ∙ beyond_second (λ (x y : ℕ). (x + (4294967296 - y)) % 4294967296) (Fits w32) beyond_32 c.args.self c.args.other c.fits-self.1 c.fits-other.1
