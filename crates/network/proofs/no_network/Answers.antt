use mathlib.Core.Path.{refl}
use native.Mathlib.Omega.{arith}
use native.Mathlib.Nat.{not-suc-le-zero}
use Rattle.model.specs.Network.{build, levels, widths}
use Rattle.network.proofs.Building.{zero_at}
use Rattle.model.specs.Network as model
use Rattle.model.specs.Row.{max_nodes}
use Rattle.network.proofs.no_network.Goals as goal

pub returns : goal.returns
unfolding model.widths model.levels build
returns c = record {
  built = record {
    slots_length = refl;
    widths-length = refl;
    levels-length = refl;
    signs-length = refl;
    priorities-length = refl;
    sound = record { few = omega arith; widths = refl; levels = refl };
    shaped = λ i h. absurd (not-suc-le-zero h);
    narrow = λ i. omega (arith, zero_at max_nodes i);
    low = λ i. omega (arith, zero_at max_nodes i);
    unwatched = λ i h. zero_at max_nodes i;
    unranked = λ i h. zero_at max_nodes i;
    widths-end = λ i h. zero_at max_nodes i;
    levels-end = λ i h. zero_at max_nodes i;
  };
  empty = refl;
}
