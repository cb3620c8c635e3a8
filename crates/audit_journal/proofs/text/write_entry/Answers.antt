use Rattle.std.proofs.lemmas.Result.{err_from_is_err_and}
use Rattle.audit_journal.specs.Journal.{seen_entry}
use Rattle.audit_journal.proofs.Writing.{audit_line-pieces, nothing_written, wrote_more, failed_in, last_in}
use Rattle.audit_journal.proofs.text.write_entry.Goals as goal

pub returns-in_err-write_number : goal.returns-in_err-write_number
returns-in_err-write_number g c =
    let failed = err_from_is_err_and c.from_residual.result c.from_residual.ensures.1 in
    let e = seen_entry c.args.entry.now in
    failed_in _ failed.1 (nothing_written (audit_line-pieces e _ c.from.ensures)) c.in_err-write_number.ensures

pub returns-in_err-write_number-2 : goal.returns-in_err-write_number-2
returns-in_err-write_number-2 g c =
    let failed = err_from_is_err_and c.from_residual-in_err-write_number-2.result c.from_residual-in_err-write_number-2.ensures.1 in
    let e = seen_entry c.args.entry.now in
    failed_in _ failed.1 (wrote_more (nothing_written (audit_line-pieces e _ c.from.ensures)) c.in_ok-write_number.ensures) c.in_err-write_number-2.ensures

pub returns-in_err-write_kind : goal.returns-in_err-write_kind
returns-in_err-write_kind g c =
    let failed = err_from_is_err_and c.from_residual-in_err-write_kind.result c.from_residual-in_err-write_kind.ensures.1 in
    let e = seen_entry c.args.entry.now in
    failed_in _ failed.1 (wrote_more (wrote_more (nothing_written (audit_line-pieces e _ c.from.ensures)) c.in_ok-write_number.ensures) c.in_ok-write_number-2.ensures) c.in_err-write_kind.ensures

pub returns-in_err-write_pick : goal.returns-in_err-write_pick
returns-in_err-write_pick g c =
    let failed = err_from_is_err_and c.from_residual-in_err-write_pick.result c.from_residual-in_err-write_pick.ensures.1 in
    let e = seen_entry c.args.entry.now in
    failed_in _ failed.1 (wrote_more (wrote_more (wrote_more (nothing_written (audit_line-pieces e _ c.from.ensures)) c.in_ok-write_number.ensures) c.in_ok-write_number-2.ensures) c.in_ok-write_kind.ensures) c.in_err-write_pick.ensures

pub returns-in_err-write_number-3 : goal.returns-in_err-write_number-3
returns-in_err-write_number-3 g c =
    let failed = err_from_is_err_and c.from_residual-in_err-write_number-3.result c.from_residual-in_err-write_number-3.ensures.1 in
    let e = seen_entry c.args.entry.now in
    failed_in _ failed.1 (wrote_more (wrote_more (wrote_more (wrote_more (nothing_written (audit_line-pieces e _ c.from.ensures)) c.in_ok-write_number.ensures) c.in_ok-write_number-2.ensures) c.in_ok-write_kind.ensures) c.in_ok-write_pick.ensures) c.in_err-write_number-3.ensures

pub returns-in_err-write_bytes : goal.returns-in_err-write_bytes
returns-in_err-write_bytes g c =
    let failed = err_from_is_err_and c.from_residual-in_err-write_bytes.result c.from_residual-in_err-write_bytes.ensures.1 in
    let e = seen_entry c.args.entry.now in
    failed_in _ failed.1 (wrote_more (wrote_more (wrote_more (wrote_more (wrote_more (nothing_written (audit_line-pieces e _ c.from.ensures)) c.in_ok-write_number.ensures) c.in_ok-write_number-2.ensures) c.in_ok-write_kind.ensures) c.in_ok-write_pick.ensures) c.in_ok-write_number-3.ensures) c.in_err-write_bytes.ensures

pub returns : goal.returns
returns g c =
    let e = seen_entry c.args.entry.now in
    last_in c.write_bytes-2.result (wrote_more (wrote_more (wrote_more (wrote_more (wrote_more (wrote_more (nothing_written (audit_line-pieces e _ c.from.ensures)) c.in_ok-write_number.ensures) c.in_ok-write_number-2.ensures) c.in_ok-write_kind.ensures) c.in_ok-write_pick.ensures) c.in_ok-write_number-3.ensures) c.in_ok-write_bytes.ensures) c.write_bytes-2.ensures
