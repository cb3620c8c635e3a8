use Rattle.device_laws.proofs.EffectBytes.{effect_same}
use Rattle.device_laws.proofs.handles.effects_ignore_handles.Goals as goal

pub returns : goal.returns
returns c = effect_same
