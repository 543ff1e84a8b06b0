use Rattle.image_loading.proofs.NoneBroken.{empty_set}
use Rattle.image_loading.proofs.broken.is_empty.Goals as goal

pub returns : goal.returns
returns c = empty_set c.args.set.now c.as_slice.result.now c.is_empty.result c.as_slice.ensures.value c.as_slice.ensures.numbered c.is_empty.ensures
