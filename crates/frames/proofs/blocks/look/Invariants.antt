-- `look` meets its contract. The loop's invariant: what is known of the mask after the places passed.
use Prim.Native.Nat.{◌≤◌}
use mathlib.Core.Path.{◌≡◌}
use lib.ListN.{length}
use Rattle.frames.specs.Inside.{Looked}
use Rattle.frames.proofs.blocks.look.Given as goal

abbrev pub invariant-loop-j : goal.invariant-loop-j
invariant-loop-j l = (l.tried ≤ length l.steps) × (length l.mask ≡ length l.initial.mask) × Looked l.frame l.steps l.at l.j l.standing l.mask
