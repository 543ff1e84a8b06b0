use Rattle.std.proofs.Common.{◌≡◌, ◌∙◌, ◌∷◌, true, [], ap, arith, lt-ltb, nat_lt, slice_get, subst, sym}
use Rattle.name_commands.specs.domain_base.Limits.{file_bytes}
use Rattle.name_commands.specs.domain_base.declared.place.Kind.TheVariants as kind
use Rattle.name_commands.specs.domain_base.declared.place.Kind.{Kind}
use Rattle.name_commands.specs.domain_layout.CellRules.{of_original}
use Rattle.name_commands.specs.fileset_model.Paths.{first_refusal, refuse_if}
use Rattle.name_commands.specs.fileset_values.declared.reply.Refusal.TheVariants.{TooFar}
use Rattle.name_commands.specs.fileset_table.Table.{Table}
use Rattle.name_commands.specs.name_changes.Looking.{IsLiveIn}
use Rattle.name_commands.specs.Placing.{IsPlacedForSome}
use Rattle.file_commands.proofs.FileAnswers.{as_kind, filing_directory, filing_file, is_there_file, staged_placed}
use Rattle.file_commands.proofs.Refunded.{IsCut, ends_cut, enough_cut, stands_cut}
use Rattle.file_commands.proofs.filing.cut_found.Goals as goal

pub returns-in-Directory-clause-ends : goal.returns-in-Directory-clause-ends
returns-in-Directory-clause-ends c = λ all place stands p. filing_directory c.args.memory.now all place c.args.at.number c.args.at.tag c.args.at.kind p (λ slot. refuse_if (nat_lt file_bytes c.args.size) TooFar ∷ []) c.in-Directory.is

pub returns-then-size-gt-FILE_BYTES-clause-ends : goal.returns-then-size-gt-FILE_BYTES-clause-ends
returns-then-size-gt-FILE_BYTES-clause-ends c = λ all place stands p.
    filing_file c.args.memory.now all place c.args.at.number c.args.at.tag c.args.at.kind p (λ slot. refuse_if (nat_lt file_bytes c.args.size) TooFar ∷ []) c.in-File.is
    ∙ ap (λ b. first_refusal (refuse_if b TooFar ∷ [])) (lt-ltb file_bytes c.args.size (omega (arith, c.if-size-gt-FILE_BYTES.true)))

pub describe-what-requires-clause-stands : goal.describe-what-requires-clause-stands
describe-what-requires-clause-stands c = staged_placed c.args.memory.now c.args.at.number c.args.at.tag c.args.at.kind c.requires.settled c.requires.placed

pub describe-what-requires-clause-there : goal.describe-what-requires-clause-there
describe-what-requires-clause-there c = is_there_file c.args.memory.now c.args.at.number c.args.at.tag c.args.at.kind c.requires.live

pub cut_counted-requires-clause-stands : goal.cut_counted-requires-clause-stands
cut_counted-requires-clause-stands c = staged_placed c.args.memory.now c.args.at.number c.args.at.tag c.args.at.kind c.requires.settled c.requires.placed

pub cut_counted-requires-clause-file : goal.cut_counted-requires-clause-file
cut_counted-requires-clause-file c = subst (IsLiveIn c.args.memory.now c.args.at.number c.args.at.tag) c.in-File.is c.requires.live

pub refund-requires-clause-stands : goal.refund-requires-clause-stands
refund-requires-clause-stands c =
    let at = c.args.at in
    let cut : IsCut c.args.memory.now c.cut_counted.new.memory at.number at.tag c.args.size c.in_ok-gone-in-File.gone = record {
      ok = c.in_ok-gone-in-File.ensures.ok;
      less = c.in_ok-gone-in-File.ensures.gone;
      parents = c.in_ok-gone-in-File.ensures.parents;
      table = c.cut_counted.ensures.table;
      books = c.cut_counted.ensures.counted;
    } in
    stands_cut c.args.memory.now c.cut_counted.new.memory at.number at.tag c.args.size c.in_ok-gone-in-File.gone cut (subst (λ (k : Kind). ∥ IsPlacedForSome c.args.memory.now at.number at.tag k ∥₁) c.in-File.is c.requires.placed)

pub refund-requires-clause-original : goal.refund-requires-clause-original
refund-requires-clause-original c = subst (λ (t : Table). of_original (slice_get t.slots c.args.at.number) ≡ true) (sym c.cut_counted.ensures.table) c.requires.original

pub refund-requires-clause-enough : goal.refund-requires-clause-enough
refund-requires-clause-enough c =
    let at = c.args.at in
    let cut : IsCut c.args.memory.now c.cut_counted.new.memory at.number at.tag c.args.size c.in_ok-gone-in-File.gone = record {
      ok = c.in_ok-gone-in-File.ensures.ok;
      less = c.in_ok-gone-in-File.ensures.gone;
      parents = c.in_ok-gone-in-File.ensures.parents;
      table = c.cut_counted.ensures.table;
      books = c.cut_counted.ensures.counted;
    } in
    enough_cut c.args.memory.now c.cut_counted.new.memory at.number at.tag c.args.size c.in_ok-gone-in-File.gone cut c.describe-what.result c.describe-what.ensures.is c.requires.settled
    (subst (λ (k : Kind). ∥ IsPlacedForSome c.args.memory.now at.number at.tag k ∥₁) c.in-File.is c.requires.placed)

pub returns-in_ok-gone-in-File-clause-ends : goal.returns-in_ok-gone-in-File-clause-ends
returns-in_ok-gone-in-File-clause-ends c = λ all place stands p.
    let memory = c.args.memory.now in
    let at = c.args.at in
    let cut : IsCut c.args.memory.now c.cut_counted.new.memory at.number at.tag c.args.size c.in_ok-gone-in-File.gone = record {
      ok = c.in_ok-gone-in-File.ensures.ok;
      less = c.in_ok-gone-in-File.ensures.gone;
      parents = c.in_ok-gone-in-File.ensures.parents;
      table = c.cut_counted.ensures.table;
      books = c.cut_counted.ensures.counted;
    } in
    ends_cut memory c.cut_counted.new.memory at.number at.tag c.args.size c.in_ok-gone-in-File.gone cut c.describe-what.result c.describe-what.ensures.is c.requires.settled
    c.refund.new.memory (omega (arith, c.if-size-gt-FILE_BYTES.false)) c.refund.ensures.refunds c.refund.ensures.domain c.refund.ensures.staged all place stands (as_kind memory all place at.number at.tag at.kind kind.File c.in-File.is p)
