-- One change around a slot after another, and none.
use Rattle.std.proofs.Common.{◌∙◌, ◌<◌, ℕ, [], None, slice_get, refl, sym, ap, subst, arith}
use Rattle.std.proofs.lemmas.List.{append-nil}
use Rattle.standing_laws.specs.fileset_files.Creation.{last_sequence}
use Rattle.standing_laws.specs.log_ring.Homes.{IsMember}
use Rattle.standing_laws.specs.fileset_table.Table.{Table}
use Rattle.standing_laws.specs.domain_layout.CellRules.{of_clone}
use Rattle.standing_laws.specs.domain_layout.Reached.{Frame, first_cells}
use Rattle.standing_laws.specs.domain_standing.Domain.{DomainNow}
use Rattle.set_standing.specs.Around.{GoesOnAround, StandsAround, StaysAround}
use Rattle.set_standing.specs.Follow.{Said}
use Rattle.set_standing.proofs.FilesKept.{files_by, files_joined, tag_same}

pub all_stay : (number : ℕ) (d : DomainNow) → StandsAround number d → GoesOnAround None number d d
all_stay number d around = (
  around,
  record {
    frame = refl;
    table = refl;
    tags = λ other differ. refl;
    slots = λ other entry shape fileset differ at stood. stood;
    parents = λ other differ stands had. had;
    volumes = λ home of. refl;
    limits = λ entry limits at are. are;
    files = files_by number d d [] (sym (append-nil (d.tags number))) (λ slot. omega arith) around.chains around.chains around.well.together.files around.well.together.files
        (λ tag. tag_same d d (last_sequence d.pages (d.tags number) tag.slot) tag (around.chains tag) (λ cells there seen is file page home at. refl));
  },
)

stays_joined : (said : Said) (number : ℕ) (d between now : DomainNow) → StandsAround number between → StaysAround None number d between → StaysAround said number between now → StaysAround said number d now
stays_joined said number d between now around one two = record {
  frame = two.frame ∙ one.frame;
  table = two.table ∙ one.table;
  tags = λ other differ. two.tags other differ ∙ one.tags other differ;
  slots = λ other entry shape fileset differ at stood.
      two.slots other entry shape fileset differ (ap (λ (t : Table). slice_get t.slots other) one.table ∙ at) (one.slots other entry shape fileset differ at stood);
  parents = λ other differ stands had.
      two.parents other differ (record {
        no_clone = ap (λ (t : Table). of_clone (slice_get t.slots other)) one.table ∙ stands.no_clone;
        each = λ entry at.
            let there = sym (ap (λ (t : Table). slice_get t.slots other) one.table) ∙ at in
            let was = stands.each entry there in
            (was.0, was.1, one.slots other entry was.0 was.1 differ there was.2);
      }) (one.parents other differ stands had);
  limits = λ entry limits at are. two.limits entry limits (ap (λ (t : Table). slice_get t.slots number) one.table ∙ at) (one.limits entry limits at are);
  files = files_joined said number d between now one.files two.files around.chains around.well.together.files;
  volumes = λ home of.
      two.volumes home (subst (λ (f : Frame). IsMember f.anchor home.vol × (home.page < first_cells f home.vol)) (sym one.frame) of) ∙ one.volumes home of;
}

pub joined : (said : Said) (number : ℕ) (d between now : DomainNow) → GoesOnAround None number d between → GoesOnAround said number between now → GoesOnAround said number d now
joined said number d between now one two = (two.0, stays_joined said number d between now one.0 one.1 two.1)
