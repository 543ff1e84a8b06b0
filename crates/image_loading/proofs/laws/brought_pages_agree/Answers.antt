use Rattle.image_loading.proofs.Image.{brought_agree}
use Rattle.image_loading.proofs.laws.brought_pages_agree.Goals as goal

pub returns : goal.returns
returns c = λ old new before after groups frame told images brings has. brought_agree old new before after groups frame told images brings has
