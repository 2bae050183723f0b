use Rattle.std.proofs.Common.{ap, sym, ◌∙◌}
use Rattle.std.specs.Prelude.{Result, Ok, Err, Some, IfOk}
use Rattle.compute_tests.specs.Pictures.{pixels_of, counts_of}
use Rattle.compute_tests.proofs.histogram.HistogramsComputeClassPictures.compute.Goals as goal

if_ok : {A E : Type 0} (r : Result A E) (P Q : A → Type 0) → ((a : A) → P a → Q a) → IfOk r P → IfOk r Q
if_ok (Ok a) P Q f p = f a p
if_ok (Err e) P Q f p = p

-- the histogram of the pixels that the key of the turn spells
pub returns : goal.returns
returns c =
    if_ok c.new.result _ _
    (λ made is. sym (ap Some (is ∙ c.in_ok-of.ensures ∙ ap counts_of c.to_be_bytes-pixels.ensures ∙ ap (λ key. counts_of (pixels_of key)) c.key.ensures)))
    c.new.ensures
