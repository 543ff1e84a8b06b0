use Rattle.std.proofs.Common.{refl, sym, ◌∙◌, arith}
use Rattle.cell_records.proofs.Scan.{ok_is, err_is_not_ok}
use Rattle.cell_records.proofs.WholeRecord.{kind-begins, kind-size, length-spelling, scanned_kind, scan-found, scan-wrong, wrong_kind, reads-begins}
use Rattle.cell_records.proofs.read_record.Goals as goal

pub returns-then-last_kind_of-kind-clause-only : goal.returns-then-last_kind_of-kind-clause-only
returns-then-last_kind_of-kind-clause-only c = λ r h. absurd (omega (arith, c.if-last_kind_of-kind.true, c.last_kind_of.ensures, c.first_kind-kind.ensures, kind-begins c.args.version r c.args.bytes.now h, h.known))

pub returns-then-last_kind_of-kind-clause-none : goal.returns-then-last_kind_of-kind-clause-none
returns-then-last_kind_of-kind-clause-none c = λ r h. omega (arith, c.if-last_kind_of-kind.true, c.last_kind_of.ensures, c.first_kind-kind.ensures, kind-begins c.args.version r c.args.bytes.now h, h.known)

pub returns-then-last_kind_of-kind-clause-first_wrong : goal.returns-then-last_kind_of-kind-clause-first_wrong
returns-then-last_kind_of-kind-clause-first_wrong c = wrong_kind c.args.version c.args.bytes.now (record { kind = c.first_kind-kind.result; at = 0 }) c.first_kind-kind.ensures refl (λ is. omega (arith, c.if-last_kind_of-kind.true, c.last_kind_of.ensures))

pub record_at-requires-clause-kind : goal.record_at-requires-clause-kind
record_at-requires-clause-kind c = scanned_kind c.first_kind-kind.result c.args.bytes.now c.in-Ok.end (sym c.in-Ok.ensures)

pub record_at-requires-clause-room : goal.record_at-requires-clause-room
record_at-requires-clause-room c = (scan-found c.args.version c.first_kind-kind.result c.args.bytes.now c.in-Ok.end (omega (arith, c.if-last_kind_of-kind.false, c.last_kind_of.ensures)) (λ i. omega (arith, c.type_inv.bytes i)) (sym c.in-Ok.ensures)).room

pub returns-in-Ok-clause-found : goal.returns-in-Ok-clause-found
returns-in-Ok-clause-found c =
    let f = scan-found c.args.version c.first_kind-kind.result c.args.bytes.now c.in-Ok.end (omega (arith, c.if-last_kind_of-kind.false, c.last_kind_of.ensures)) (λ i. omega (arith, c.type_inv.bytes i)) (sym c.in-Ok.ensures) in
    rw c.record_at.ensures (f.begins, f.ends)

pub returns-in-Ok-clause-size : goal.returns-in-Ok-clause-size
returns-in-Ok-clause-size c =
    let f = scan-found c.args.version c.first_kind-kind.result c.args.bytes.now c.in-Ok.end (omega (arith, c.if-last_kind_of-kind.false, c.last_kind_of.ensures)) (λ i. omega (arith, c.type_inv.bytes i)) (sym c.in-Ok.ensures) in
    rw c.record_at.ensures (f.ends ∙ length-spelling _ f.begins.allowed)

pub returns-in-Ok-clause-inside : goal.returns-in-Ok-clause-inside
returns-in-Ok-clause-inside c =
    let f = scan-found c.args.version c.first_kind-kind.result c.args.bytes.now c.in-Ok.end (omega (arith, c.if-last_kind_of-kind.false, c.last_kind_of.ensures)) (λ i. omega (arith, c.type_inv.bytes i)) (sym c.in-Ok.ensures) in
    let some = kind-size c.first_kind-kind.result (scanned_kind c.first_kind-kind.result c.args.bytes.now c.in-Ok.end (sym c.in-Ok.ensures)) in
    (omega (arith, f.size, some), omega (arith, f.size, f.room))

pub returns-in-Ok-clause-only : goal.returns-in-Ok-clause-only
returns-in-Ok-clause-only c = λ r h.
    let reads = reads-begins c.args.version c.first_kind-kind.result c.args.bytes.now r c.first_kind-kind.ensures h in
    let end = ok_is c.in-Ok.end _ (c.in-Ok.ensures ∙ reads.scan) in
    let value = c.record_at.ensures ∙ reads.value in
    rw (value, end) refl

pub returns-in-Err-clause-only : goal.returns-in-Err-clause-only
returns-in-Err-clause-only c = λ r h.
    let reads = reads-begins c.args.version c.first_kind-kind.result c.args.bytes.now r c.first_kind-kind.ensures h in
    absurd (err_is_not_ok c.in-Err.at _ (c.in-Err.ensures ∙ reads.scan))

pub returns-in-Err-clause-none : goal.returns-in-Err-clause-none
returns-in-Err-clause-none c = λ r h.
    let reads = reads-begins c.args.version c.first_kind-kind.result c.args.bytes.now r c.first_kind-kind.ensures h in
    err_is_not_ok c.in-Err.at _ (c.in-Err.ensures ∙ reads.scan)

pub returns-in-Err-clause-first_wrong : goal.returns-in-Err-clause-first_wrong
returns-in-Err-clause-first_wrong c = scan-wrong c.args.version c.args.bytes.now (record { kind = c.first_kind-kind.result; at = c.in-Err.at }) (λ i. omega (arith, c.type_inv.bytes i)) c.first_kind-kind.ensures (omega (arith, c.if-last_kind_of-kind.false, c.last_kind_of.ensures)) (sym c.in-Err.ensures)
