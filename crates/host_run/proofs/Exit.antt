-- The code 0 is that of Ok.
use Rattle.std.proofs.Common.{◌≡◌, ℕ, ◌⊎◌, inl, inr, Err, refl, sym, ◌∙◌}
use Rattle.host_io.specs.Status.{number_of}
use Rattle.host_io.specs.declared.status.Status.{Status}
use Rattle.host_io.specs.declared.status.Status.TheVariants as status
use Rattle.host_run.specs.Ending.{ending_of_arguments, status_of_end}
use Rattle.host_run.specs.declared.arguments.ArgumentsError.{ArgumentsError}
use Rattle.host_run.specs.declared.arguments.ArgumentsError.TheVariants as arguments
use Rattle.host_run.specs.declared.notes.Ending.{Ending}

pub zero_is_ok : (s : Status) → number_of s ≡ 0 → s ≡ status.Ok
zero_is_ok status.Ok e = refl
zero_is_ok status.Words e = cc
zero_is_ok status.Project e = cc
zero_is_ok status.Clip e = cc
zero_is_ok status.ReadFault e = cc
zero_is_ok status.WriteFault e = cc
zero_is_ok status.Memory e = cc
zero_is_ok status.ClipFault e = cc
zero_is_ok status.Span e = cc
zero_is_ok status.ProjectTooLong e = cc

-- the code of a status
pub coded : (s : Status) (code number : ℕ) → code ≡ number → number ≡ number_of s → code ≡ 0 → s ≡ status.Ok
coded s code number e f zero = zero_is_ok s (sym f ∙ sym e ∙ zero)

-- where there are no arguments it is another
pub refused_not_ok : (e : ArgumentsError) (end : Ending) (s : Status) → end ≡ ending_of_arguments e → (s ≡ status_of_end (Err end)) ⊎ (s ≡ status.Memory) → s ≡ status.Ok → ⊥
refused_not_ok arguments.NotText end s is (inl told) ok = cc
refused_not_ok arguments.NotText end s is (inr told) ok = cc
refused_not_ok arguments.Memory end s is (inl told) ok = cc
refused_not_ok arguments.Memory end s is (inr told) ok = cc
