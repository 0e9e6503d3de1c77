-- `join_some` meets its contract. Assumes nothing.
use Prim.Native.Nat.{◌+◌}
use mathlib.Core.Path.{refl}
use native.Mathlib.Omega.{arith}
use Rattle.joined_runs.proofs.Laid.{start_in, joined_within, joined_listable, joined_some}
use Rattle.joined_runs.proofs.join_some.Goals as goal

pub offset_bounds-s-p : goal.offset_bounds-s-p
offset_bounds-s-p c = omega (arith, start_in c.args.count c.args.first c.place-p.result c.args.s.now c.place-p.ensures, c.requires.0)

pub slice_bounds-place-count : goal.slice_bounds-place-count
slice_bounds-place-count c = start_in c.args.count c.args.first c.place-p.result c.args.s.now c.place-p.ensures

pub slice_bounds-place-start : goal.slice_bounds-place-start
slice_bounds-place-start c = omega (arith, start_in c.args.count c.args.first c.place-p.result c.args.s.now c.place-p.ensures)

pub overflow_add-q : goal.overflow_add-q
overflow_add-q c =
    let rank = c.rank-base in
    let place = c.place-p in
    omega (arith, (joined_within c.args.count c.args.s.now c.args.set c.args.first rank.result place.result c.place.result (place.result + c.place.result) c.requires.0 c.requires.1 rank.ensures.is place.ensures c.place.ensures refl).most, c.requires.0)

pub offset_bounds-s-p-2 : goal.offset_bounds-s-p-2
offset_bounds-s-p-2 c =
    let rank = c.rank-base in
    let place = c.place-p in
    omega (arith, (joined_within c.args.count c.args.s.now c.args.set c.args.first rank.result place.result c.place.result (place.result + c.place.result) c.requires.0 c.requires.1 rank.ensures.is place.ensures c.place.ensures refl).most, c.requires.0)

pub slice_bounds-joined-end : goal.slice_bounds-joined-end
slice_bounds-joined-end c =
    let rank = c.rank-base in
    let place = c.place-p in
    let place2 = c.place in
    omega (arith, (joined_within c.args.count c.args.s.now c.args.set c.args.first rank.result place.result place2.result (place.result + place2.result) c.requires.0 c.requires.1 rank.ensures.is place.ensures place2.ensures refl).most, c.requires.0)

pub replace-requires : goal.replace-requires
replace-requires c =
    let rank = c.rank-base in
    let place = c.place-p in
    let place2 = c.place in
    let joined = c.joined-all in
    (joined_within c.args.count c.args.s.now c.args.set c.args.first rank.result place.result place2.result (place.result + place2.result) c.requires.0 c.requires.1 rank.ensures.is place.ensures place2.ensures refl, joined_listable c.args.count c.args.s.now c.args.set c.args.first rank.result place.result place2.result (place.result + place2.result) c.requires.0 c.requires.1 rank.ensures.is place.ensures place2.ensures refl joined.result joined.ensures)

pub returns : goal.returns
returns c =
    let rank = c.rank-base in
    let place = c.place-p in
    let place2 = c.place in
    let joined = c.joined-all in
    let replace = c.replace in
    joined_some c.args.count c.args.s.now c.args.set c.args.first rank.result place.result place2.result (place.result + place2.result) c.requires.0 c.requires.1 rank.ensures.is place.ensures place2.ensures refl joined.result joined.ensures replace.result replace.new.s replace.ensures
