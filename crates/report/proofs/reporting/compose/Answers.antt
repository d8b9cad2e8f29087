-- `compose` meets its contract, step by step.
use mathlib.Core.Path.{refl}
use Rattle.report.specs.Texts.{blank}
use Rattle.report.proofs.Steps.{text_long, trace-refused, trace_read, pattern_refused, pattern_read, prepare_refused, prepare_done, search_refused, search_found, read_few, found_few, answer-room, alone}
use Rattle.report.proofs.reporting.compose.Goals as goal

pub returns-then-input-gt-INPUT_LIMIT : goal.returns-then-input-gt-INPUT_LIMIT
returns-then-input-gt-INPUT_LIMIT c = alone c.requires (text_long _ c.if-input-gt-INPUT_LIMIT.true) c.put_refusal.ensures

pub returns-in_default : goal.returns-in_default
returns-in_default c = alone c.requires (trace-refused _ c.if-input-gt-INPUT_LIMIT.false c.read-traced.ensures refl c.in_default.is) (c.put_unanswered.ensures _ c.in_default.is)

pub returns-in_default-patterned : goal.returns-in_default-patterned
returns-in_default-patterned c =
    let e = trace_read _ c.if-input-gt-INPUT_LIMIT.false c.read-traced.ensures refl c.in-Ok.is in
    alone c.requires (pattern_refused e c.read-patterned.ensures refl c.in_default-patterned.is) (c.put_unanswered-in_default-patterned.ensures _ c.in_default-patterned.is)

pub slice_bounds-prepare-end : goal.slice_bounds-prepare-end
slice_bounds-prepare-end c = read_few c.read-patterned.ensures c.in-Ok-patterned.is c.read-patterned.auto.samples

pub returns-in_default-prepared : goal.returns-in_default-prepared
unfolding blank
returns-in_default-prepared c =
    let e = trace_read _ c.if-input-gt-INPUT_LIMIT.false c.read-traced.ensures refl c.in-Ok.is in
    let f = pattern_read e c.read-patterned.ensures refl c.in-Ok-patterned.is in
    alone c.requires (prepare_refused f c.prepare-prepared.ensures refl refl refl refl c.in_default-prepared.is) (c.put_unanswered-in_default-prepared.ensures _ c.in_default-prepared.is)

pub slice_bounds-search-end-6 : goal.slice_bounds-search-end-6
slice_bounds-search-end-6 c = read_few c.read-traced.ensures c.in-Ok.is c.read-traced.auto.samples

pub returns-in_default-searched : goal.returns-in_default-searched
unfolding blank
returns-in_default-searched c =
    let e = trace_read _ c.if-input-gt-INPUT_LIMIT.false c.read-traced.ensures refl c.in-Ok.is in
    let f = pattern_read e c.read-patterned.ensures refl c.in-Ok-patterned.is in
    let g = prepare_done f c.prepare-prepared.ensures refl refl refl refl c.in-Ok-prepared.is in
    alone c.requires (search_refused g c.search-searched.ensures refl refl c.in_default-searched.is) (c.put_unanswered-in_default-searched.ensures _ c.in_default-searched.is)

pub put_answer-requires : goal.put_answer-requires
put_answer-requires c = answer-room c.requires (found_few c.search-searched.ensures c.in-Ok-searched.is) c.search-searched.auto.positions

pub returns : goal.returns
unfolding blank
returns c =
    let e = trace_read _ c.if-input-gt-INPUT_LIMIT.false c.read-traced.ensures refl c.in-Ok.is in
    let f = pattern_read e c.read-patterned.ensures refl c.in-Ok-patterned.is in
    let g = prepare_done f c.prepare-prepared.ensures refl refl refl refl c.in-Ok-prepared.is in
    alone c.requires (search_found g c.search-searched.ensures refl refl c.in-Ok-searched.is) c.put_answer.ensures
