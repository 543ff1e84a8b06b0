use Rattle.std.proofs.Common.{rules, ◌+◌, [], ◌∷◌, length, nat_lt, None}
use Rattle.std.specs.Option.{option_map_or}
use Rattle.legal_histories.specs.domain_base.declared.limits.TheConstants.{FILE_BYTES}
use Rattle.legal_histories.specs.fileset_model.Apply.{read_only, write_quota}
use Rattle.legal_histories.specs.fileset_model.Paths.{directory_here, node_at, refuse_if, target_refusal}
use Rattle.legal_histories.specs.fileset_values.declared.reply.Refusal.TheVariants.{TooFar}
use Rattle.plain_program.proofs.RefusalLemmas.{stops_in_front}
use Rattle.plain_program.proofs.refusals.check_write.Goals as goal

pub returns-in_err-check_file : goal.returns-in_err-check_file
returns-in_err-check_file c =
    let slot = c.args.slot.now in
    let path = c.args.path.now in
    let offset = c.args.offset in
    let bytes = c.args.bytes.now in
    let checks = read_only slot ∷ target_refusal slot path ∷ directory_here slot path ∷ [] in
    let more =
    refuse_if (nat_lt FILE_BYTES (offset + length bytes)) TooFar
    ∷ option_map_or (write_quota slot.tree offset bytes) (node_at slot.tree path) None ∷ [] in
    let stops = stops_in_front checks more c.in_err-check_file.field-0.0 c.in_err-check_file.ensures in
    search (rules, stops)
