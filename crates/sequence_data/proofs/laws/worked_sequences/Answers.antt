use Rattle.std.proofs.Common.{◌≡◌, ◌*◌, refl, arith}
use Rattle.hex.proofs.OnLiterals.{hex_on_literals}
use Rattle.sequence_data.proofs.laws.worked_sequences.Goals as goal

pub returns : goal.returns
unfolding hex_on_literals
returns c = record {
  two_entries = record {
    decoded = refl;
    fits = record { units = 2; whole = refl; some = omega arith; few = omega arith };
  };
  four_bytes = λ fits. let whole : 4 ≡ 3 * fits.units = fits.whole in omega (arith, whole);
  no_entry = λ fits. let whole : 0 ≡ 3 * fits.units = fits.whole in omega (arith, whole, fits.some);
  too_many = λ fits. let whole : 771 ≡ 3 * fits.units = fits.whole in omega (arith, whole, fits.few);
  empty = record {
    decoded = refl;
    fits = record { units = 0; whole = refl; some = omega arith; few = omega arith };
  };
  one_byte = λ fits. let whole : 1 ≡ 0 * fits.units = fits.whole in omega (arith, whole);
}
