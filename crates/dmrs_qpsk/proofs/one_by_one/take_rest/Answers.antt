use Rattle.std.proofs.Common.{◌+◌, ◌*◌, ◌/◌, ap, arith}
use Rattle.coreset_map.specs.RegOrder.{reg_at}
use Rattle.dmrs_qpsk.proofs.PointsRead.{all_taken, one_taken_more, room_left}
use Rattle.dmrs_qpsk.proofs.Takes.{first_bad}
use Rattle.dmrs_qpsk.proofs.one_by_one.take_rest.Goals as goal

pub returns-in-Err-clause-bad : goal.returns-in-Err-clause-bad
returns-in-Err-clause-bad c =
    let a = c.args in
    let l = c.loop-place in
    first_bad a.grid.now a.first a.id a.regs.now l.bits l.place
    (12 * (reg_at a.regs.now (l.place / 12)).block + c.from.result) c.in-Err.flaw
    c.requires.regs c.loop-place-test.true l.invariant
    (ap (λ k. 12 * (reg_at a.regs.now (l.place / 12)).block + k) c.from.ensures)
    c.in-Err.ensures.flawed

pub loop-place-preserved : goal.loop-place-preserved
loop-place-preserved c =
    let a = c.args in
    let l = c.loop-place in
    one_taken_more a.grid.now a.first a.id a.regs.now l.bits c.take_point.new.bits l.place l.invariant c.in_default.ensures.taken

pub returns-clause-bits : goal.returns-clause-bits
returns-clause-bits c =
    let a = c.args in
    let l = c.loop-place in
    all_taken a.grid.now a.first a.id a.regs.now l.bits l.place (omega arith) l.invariant

pub take_point-requires-clause-room : goal.take_point-requires-clause-room
take_point-requires-clause-room c =
    let a = c.args in
    let l = c.loop-place in
    room_left a.grid.now a.first a.id a.regs.now l.bits l.place l.invariant c.loop-place-test.true c.requires.few
