use Rattle.std.proofs.Common.{◌≡◌, ℕ, ◌+◌, ◌≤◌, List, length, Option, Some, None, sym, ◌∙◌, subst, bytes_eq, arith}
use Rattle.std.specs.Prelude.{IfSome}
use Rattle.std.specs.Option.{option_map}
use Rattle.std.proofs.lemmas.Map.Entries.{All-lookup}
use Rattle.host_io.specs.Cause.{last_count}
use Rattle.host_io.specs.Clips.{entries_of, found_in}
use Rattle.host_io.proofs.lying.LyingClipsClipStore.length.Goals as goal

-- what holds of each that is there holds of its length
length_of_found : (more n : ℕ) (found : Option (List ℕ)) → IfSome found (λ bytes. length bytes + more ≤ last_count) → Some n ≡ option_map length found → n + more ≤ last_count
length_of_found more n None h e = cc
length_of_found more n (Some bytes) h e = let same : n ≡ length bytes = cc in subst (λ k. k + more ≤ last_count) (sym same) h

pub overflow_add-result : goal.overflow_add-result
overflow_add-result c =
    let entries = entries_of c.self.inside.clips in
    let room = All-lookup (λ bytes. length bytes + c.self.inside.more ≤ last_count) (λ key. bytes_eq c.args.name.now key) entries c.self.invariant in
    let fits = length_of_found c.self.inside.more c.in-Some.length (found_in entries c.args.name.now) room (sym c.in-Some.is ∙ c.length_in.ensures) in
    omega (arith, fits)
