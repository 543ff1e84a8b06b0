use Rattle.standing_laws.proofs.FilesetBegins.{others_begun}
use Rattle.standing_laws.proofs.elsewhere.other_slots_stay_where_a_fileset_begins.Goals as goal

pub returns : goal.returns
returns c = λ number entry d now files indexes below joins. others_begun number entry d now files indexes below joins
