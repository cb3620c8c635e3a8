use Rattle.std.proofs.lemmas.Result.{err_from_is_err_and}
use Rattle.audit_journal.proofs.Writing.{encode_lower-cut, encode_lower-none, rest_is, wrote_more, failed_in, all_written}
use Rattle.audit_journal.proofs.text.write_digits.Goals as goal

pub returns-in_err-write_piece : goal.returns-in_err-write_piece
returns-in_err-write_piece g c =
    let failed = err_from_is_err_and c.from_residual.result c.from_residual.ensures.1 in
    failed_in _ failed.1 (rest_is (encode_lower-cut _ _ _ _ c.split_at.ensures.front c.split_at.ensures.back) c.loop-rest.invariant) c.in_err-write_piece.ensures

pub loop-rest-preserved : goal.loop-rest-preserved
loop-rest-preserved g c =
    wrote_more (rest_is (encode_lower-cut _ _ _ _ c.split_at.ensures.front c.split_at.ensures.back) c.loop-rest.invariant) c.in_ok-write_piece.ensures

pub returns : goal.returns
returns g c =
    all_written (rest_is (encode_lower-none c.loop-rest.rest.now c.is_empty.result c.is_empty.ensures c.loop-rest-test.false) c.loop-rest.invariant)
