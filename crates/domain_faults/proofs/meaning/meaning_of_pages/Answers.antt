use Rattle.std.proofs.Common.{◌≡◌, ◌∙◌, [], false, true, ap, subst, sym}
use Rattle.slot_files.specs.domain_layout.Faults.{AreFaults, HasNoFault}
use Rattle.slot_files.specs.filesets_reading.Good.{frame_at}
use Rattle.domain_faults.specs.Rows.{rows_there}
use Rattle.domain_faults.proofs.ToldFaults.{none_told}
use Rattle.domain_faults.proofs.meaning.meaning_of_pages.Goals as goal

no_bool : {P : Type 0} → false ≡ true → P
no_bool is = absurd (cc)

pub returns-then-not-is_none : goal.returns-then-not-is_none
returns-then-not-is_none g c = (c.in_ok-rows.ensures.faults c.args.version c.requires.named.0, (λ none. no_bool (sym c.if-not-is_none.true ∙ c.is_none.ensures.1 (ap rows_there c.deref.ensures.value ∙ none))))

pub read_filesets-requires : goal.read_filesets-requires
read_filesets-requires g c =
    let pages = g.M.MetaPages.pages c.args.pages.now in
    let frame = frame_at c.args.anchor.now c.args.version in
    let empty : rows_there c.in_ok-rows.rows.items ≡ [] = ap rows_there (sym c.deref.ensures.value) ∙ c.is_none.ensures.0 c.if-not-is_none.false in
    record {
      named = c.requires.named;
      no_fault = none_told pages frame (subst (AreFaults pages frame) empty (c.in_ok-rows.ensures.faults c.args.version c.requires.named.0));
      all = c.requires.all;
    }

pub returns : goal.returns
returns g c =
    let pages = g.M.MetaPages.pages c.args.pages.now in
    let frame = frame_at c.args.anchor.now c.args.version in
    let empty : rows_there c.in_ok-rows.rows.items ≡ [] = ap rows_there (sym c.deref.ensures.value) ∙ c.is_none.ensures.0 c.if-not-is_none.false in
    record {
      no_fault = none_told pages frame (subst (AreFaults pages frame) empty (c.in_ok-rows.ensures.faults c.args.version c.requires.named.0));
      laid = c.in_ok-all.ensures.layout;
      reads = c.in_ok-all.ensures.filesets;
    }
