use Rattle.std.proofs.Common.{rules, [], ◌∷◌, nat_lt}
use Rattle.legal_histories.specs.domain_base.declared.limits.TheConstants.{FILE_BYTES}
use Rattle.legal_histories.specs.fileset_model.Apply.{read_only}
use Rattle.legal_histories.specs.fileset_model.Paths.{directory_here, refuse_if, target_refusal}
use Rattle.legal_histories.specs.fileset_values.declared.reply.Refusal.TheVariants.{TooFar}
use Rattle.plain_program.proofs.RefusalLemmas.{stops_in_front}
use Rattle.plain_program.proofs.refusals.check_truncate.Goals as goal

pub returns-in_err-check_file : goal.returns-in_err-check_file
returns-in_err-check_file c =
    let slot = c.args.slot.now in
    let path = c.args.path.now in
    let checks = read_only slot ∷ target_refusal slot path ∷ directory_here slot path ∷ [] in
    let more = refuse_if (nat_lt FILE_BYTES c.args.size) TooFar ∷ [] in
    let stops = stops_in_front checks more c.in_err-check_file.field-0.0 c.in_err-check_file.ensures in
    search (rules, stops)
