use Rattle.std.proofs.Common.{sym, ◌∙◌, refl}
use Rattle.std.specs.Prelude.{string_bytes}
use Rattle.cache_table.proofs.Slotted.{position-map}
use Rattle.compute_cache.specs.Names.{is_name}
use Rattle.compute_cache.proofs.classes.place_of.Goals as goal

pub returns : goal.returns
returns c = c.find_name.ensures ∙ sym (position-map string_bytes (is_name c.args.name.now) (λ s. is_name c.args.name.now (string_bytes s)) (λ s. refl) c.args.names.now)
