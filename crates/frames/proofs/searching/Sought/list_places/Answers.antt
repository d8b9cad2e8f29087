-- `list_places` meets its contract: there are no places, or the patch lies inside at all of them.
use mathlib.Core.Path.{refl}
use mathlib.Core.Logic.{inl, inr}
use Rattle.frames.proofs.ListingLaws.{nothing-listed}
use Rattle.frames.proofs.FrameLaws.{inside_of}
use Rattle.frames.proofs.searching.Sought.list_places.Goals as goal

pub returns-then-self-eq0 : goal.returns-then-self-eq0
returns-then-self-eq0 c = nothing-listed _ _ _ _ _ (inl c.if-self-eq0.true)

pub returns-then-self-eq0-2 : goal.returns-then-self-eq0-2
returns-then-self-eq0-2 c = nothing-listed _ _ _ _ _ (inr c.if-self-eq0-2.true)

pub invariant_of-reach : goal.invariant_of-reach
invariant_of-reach c = let f = c.args.self in record { inside = inside_of f.fit refl f.all_rows f.all_columns c.if-self-eq0.false c.if-self-eq0-2.false }
