use Rattle.device_laws.proofs.Replies.{step_replies}
use Rattle.device_laws.proofs.laws.slot_replies_are_frames.Goals as goal

pub returns : goal.returns
returns c = step_replies
