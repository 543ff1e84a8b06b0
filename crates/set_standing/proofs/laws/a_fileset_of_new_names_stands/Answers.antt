use Rattle.set_standing.proofs.Filled.{new_stands}
use Rattle.set_standing.proofs.laws.a_fileset_of_new_names_stands.Goals as goal

pub returns : goal.returns
returns c = λ said number entry d now shape fileset fileset_now shown tables tables_now there stood stays set makes follow. new_stands {said = said} number entry d now shape fileset fileset_now shown tables tables_now there stood stays set makes follow
