use Rattle.std.proofs.Common.{ℕ, Some, ap, sym, ◌∙◌, Vec, Global}
use Rattle.std.specs.Option.{option_map}
use Rattle.host_io.proofs.Names.{found_map}
use Rattle.host_io.proofs.clips.find.Goals as goal

pub returns-in-Some : goal.returns-in-Some
returns-in-Some c =
    ap Some c.as_slice.ensures.value
    ∙ ap (option_map (λ (v : Vec ℕ Global). v.items)) c.in-Some.ensures.value
    ∙ sym (found_map c.args.name.now c.args.clips.now.entries)

pub returns-in-None : goal.returns-in-None
returns-in-None c =
    ap (option_map (λ (v : Vec ℕ Global). v.items)) c.in-None.ensures.value
    ∙ sym (found_map c.args.name.now c.args.clips.now.entries)
