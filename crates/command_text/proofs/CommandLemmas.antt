-- The words of each command say that command.
use Rattle.std.proofs.Common.{◌≡◌, ℕ, ◌+◌, ◌<◌, ◌^◌, true, eqb, Option, Some, None, List, [], ◌∷◌, length, codes, decimal, refl, arith}
use Rattle.std.specs.List.{list_all, slice_split}
use Rattle.word_forms.specs.fileset_values.declared.command.Command.{Command}
use Rattle.word_forms.specs.fileset_values.declared.command.Command.TheVariants.{Mkfset, Rmfset, Clonefset, Showfsets, Setquota, Showquota, Create, Mkdir, Write, Read, Truncate, Rename, Link, Links, Unlink, Rmdir, List as ListAt, Stat, Fsync, Chfile, Stripe, Sync, Cancel, Showfdmn, Showfile, Migrate, Balance, Addvol, Rmvol, ChvolA, Switchlog, Upgrade, Defragment}
use Rattle.word_forms.specs.fileset_values.declared.command.Place.{Place}
use Rattle.command_text.specs.declared.verb.Verb.{Verb}
use Rattle.command_text.specs.declared.verb.Verb.TheVariants as verb
use Rattle.command_text.specs.Commands.{chfile, chvol, clonefset, command_of, made, migrate, migrate_to, optional, read, row_of, setquota, showquota, stripe, takes, truncate, two_paths, verb_of, write}
use Rattle.command_text.specs.Texts.{command_text, command_words, owner_id, owner_kind, switch_text}
use Rattle.word_forms.specs.Runs.{bytes_text}
use Rattle.word_forms.specs.Texts.{path_text, place_text}
use Rattle.command_text.specs.WellFormed.{IsWellFormed, Says}
use Rattle.word_forms.specs.WellFormed.{IsNamedPath}
use Rattle.word_forms.proofs.ContentRead.{content_lacks, content_read}
use Rattle.word_forms.proofs.Cuts.{cut_joined, lacks}
use Rattle.word_forms.proofs.NamesRead.{named_path_read, path_lacks}
use Rattle.word_forms.proofs.NumbersRead.{large_read, number_lacks, small_read, within_read}
use Rattle.word_forms.proofs.PlacesRead.{fileset_lacks, fileset_read, named_lacks, named_read, place_lacks, place_read}
use Rattle.command_text.proofs.Owners.{id_lacks, kind_lacks, owner_read, switch_lacks, switch_read}

-- the words of a command are cut apart again
says : (c : Command) (v : Verb) (first : List ℕ) (behind : List (List ℕ)) → command_words c ≡ first ∷ behind → lacks 32 first ≡ true → list_all (lacks 32) behind ≡ true
    → verb_of first ≡ Some v → takes v (length behind + 1) ≡ true → command_of v behind ≡ Some c → Says (command_text c) c
unfolding command_text
says c v first behind is e es named counted said = record {
  verb = v;
  first = first;
  behind = behind;
  words = cut_joined_at (command_words c) is;
  named = named;
  counted = counted;
  said = said;
}
  where
    cut_joined_at : (words : List (List ℕ)) → words ≡ first ∷ behind → slice_split (λ b. eqb b 32) (command_text c) ≡ first ∷ behind
    cut_joined_at words here = rw is (cut_joined 32 first behind e es)

small_lacks : (n : ℕ) → n < 2 ^ 32 → lacks 32 (decimal n) ≡ true
small_lacks n small = number_lacks 32 n (omega (arith, small)) (omega arith)

large_lacks : (n : ℕ) → n < 2 ^ 64 → lacks 32 (decimal n) ≡ true
large_lacks n small = number_lacks 32 n small (omega arith)

to_lacks : (path : List (List ℕ)) → IsNamedPath path → lacks 32 (path_text path) ≡ true
to_lacks path h = path_lacks path h.0

-- a command of one word, of a fileset, of a place and of a volume
alone : (c : Command) (v : Verb) → command_words c ≡ (row_of v).text ∷ [] → lacks 32 (row_of v).text ≡ true → verb_of (row_of v).text ≡ Some v → takes v 1 ≡ true
    → command_of v [] ≡ Some c → Says (command_text c) c
alone c v is e named counted said = says c v (row_of v).text [] is e refl named counted said

of_word : (c : Command) (v : Verb) (word : List ℕ) → command_words c ≡ (row_of v).text ∷ word ∷ [] → lacks 32 (row_of v).text ≡ true → lacks 32 word ≡ true
    → verb_of (row_of v).text ≡ Some v → takes v 2 ≡ true → command_of v (word ∷ []) ≡ Some c → Says (command_text c) c
of_word c v word is e e1 named counted said = says c v (row_of v).text (word ∷ []) is e (rw e1 refl) named counted said

-- `migrate` with each of its options given or left out
printed_migrate : (p : Place) (first count from : Option ℕ) (to : ℕ) → IsWellFormed (Migrate p first count from to) → Says (command_text (Migrate p first count from to)) (Migrate p first count from to)
unfolding verb_of takes migrate migrate_to optional
printed_migrate p None None None to h =
    says (Migrate p None None None to) verb.Migrate (codes "migrate") (codes "-d" ∷ decimal to ∷ place_text p ∷ []) refl refl
    (rw (small_lacks to h.4, place_lacks p h.0) refl) refl refl (rw (small_read to h.4, place_read p h.0) refl)
printed_migrate p None None (Some s) to h =
    says (Migrate p None None (Some s) to) verb.Migrate (codes "migrate") (codes "-s" ∷ decimal s ∷ codes "-d" ∷ decimal to ∷ place_text p ∷ []) refl refl
    (rw (small_lacks s h.3, small_lacks to h.4, place_lacks p h.0) refl) refl refl (rw (small_read s h.3, small_read to h.4, place_read p h.0) refl)
printed_migrate p None (Some n) None to h =
    says (Migrate p None (Some n) None to) verb.Migrate (codes "migrate") (codes "-n" ∷ decimal n ∷ codes "-d" ∷ decimal to ∷ place_text p ∷ []) refl refl
    (rw (small_lacks n h.2, small_lacks to h.4, place_lacks p h.0) refl) refl refl (rw (small_read n h.2, small_read to h.4, place_read p h.0) refl)
printed_migrate p None (Some n) (Some s) to h =
    says (Migrate p None (Some n) (Some s) to) verb.Migrate (codes "migrate") (codes "-n" ∷ decimal n ∷ codes "-s" ∷ decimal s ∷ codes "-d" ∷ decimal to ∷ place_text p ∷ []) refl refl
    (rw (small_lacks n h.2, small_lacks s h.3, small_lacks to h.4, place_lacks p h.0) refl) refl refl (rw (small_read n h.2, small_read s h.3, small_read to h.4, place_read p h.0) refl)
printed_migrate p (Some f) None None to h =
    says (Migrate p (Some f) None None to) verb.Migrate (codes "migrate") (codes "-p" ∷ decimal f ∷ codes "-d" ∷ decimal to ∷ place_text p ∷ []) refl refl
    (rw (small_lacks f h.1, small_lacks to h.4, place_lacks p h.0) refl) refl refl (rw (small_read f h.1, small_read to h.4, place_read p h.0) refl)
printed_migrate p (Some f) None (Some s) to h =
    says (Migrate p (Some f) None (Some s) to) verb.Migrate (codes "migrate") (codes "-p" ∷ decimal f ∷ codes "-s" ∷ decimal s ∷ codes "-d" ∷ decimal to ∷ place_text p ∷ []) refl refl
    (rw (small_lacks f h.1, small_lacks s h.3, small_lacks to h.4, place_lacks p h.0) refl) refl refl (rw (small_read f h.1, small_read s h.3, small_read to h.4, place_read p h.0) refl)
printed_migrate p (Some f) (Some n) None to h =
    says (Migrate p (Some f) (Some n) None to) verb.Migrate (codes "migrate") (codes "-p" ∷ decimal f ∷ codes "-n" ∷ decimal n ∷ codes "-d" ∷ decimal to ∷ place_text p ∷ []) refl refl
    (rw (small_lacks f h.1, small_lacks n h.2, small_lacks to h.4, place_lacks p h.0) refl) refl refl (rw (small_read f h.1, small_read n h.2, small_read to h.4, place_read p h.0) refl)
printed_migrate p (Some f) (Some n) (Some s) to h =
    says (Migrate p (Some f) (Some n) (Some s) to) verb.Migrate (codes "migrate") (codes "-p" ∷ decimal f ∷ codes "-n" ∷ decimal n ∷ codes "-s" ∷ decimal s ∷ codes "-d" ∷ decimal to ∷ place_text p ∷ []) refl refl
    (rw (small_lacks f h.1, small_lacks n h.2, small_lacks s h.3, small_lacks to h.4, place_lacks p h.0) refl) refl refl (rw (small_read f h.1, small_read n h.2, small_read s h.3, small_read to h.4, place_read p h.0) refl)

pub printed_says : (c : Command) → IsWellFormed c → Says (command_text c) c
unfolding verb_of takes made two_paths clonefset setquota showquota write read truncate chfile stripe chvol
printed_says (Mkfset f) h = of_word (Mkfset f) verb.Mkfset f refl refl (fileset_lacks f h) refl refl (rw (fileset_read f h) refl)
printed_says (Rmfset f) h = of_word (Rmfset f) verb.Rmfset f refl refl (fileset_lacks f h) refl refl (rw (fileset_read f h) refl)
printed_says (Clonefset f n) h =
    says (Clonefset f n) verb.Clonefset (codes "clonefset") (f ∷ n ∷ []) refl refl (rw (fileset_lacks f h.0, fileset_lacks n h.1) refl) refl refl
    (rw (fileset_read f h.0, fileset_read n h.1) refl)
printed_says (Setquota f who files blocks) h =
    says (Setquota f who files blocks) verb.Setquota (codes "setquota") (f ∷ owner_kind who ∷ decimal (owner_id who) ∷ decimal files ∷ decimal blocks ∷ []) refl refl
    (rw (fileset_lacks f h.0, kind_lacks who, id_lacks who h.1, large_lacks files h.2, large_lacks blocks h.3) refl) refl refl
    (rw (fileset_read f h.0, owner_read who h.1, large_read files h.2, large_read blocks h.3) refl)
printed_says (Showquota f who) h =
    says (Showquota f who) verb.Showquota (codes "showquota") (f ∷ owner_kind who ∷ decimal (owner_id who) ∷ []) refl refl
    (rw (fileset_lacks f h.0, kind_lacks who, id_lacks who h.1) refl) refl refl (rw (fileset_read f h.0, owner_read who h.1) refl)
printed_says (Create p uid gid) h =
    says (Create p uid gid) verb.Create (codes "create") (place_text p ∷ decimal uid ∷ decimal gid ∷ []) refl refl
    (rw (named_lacks p h.0, small_lacks uid h.1, small_lacks gid h.2) refl) refl refl (rw (named_read p h.0, small_read uid h.1, small_read gid h.2) refl)
printed_says (Mkdir p uid gid) h =
    says (Mkdir p uid gid) verb.Mkdir (codes "mkdir") (place_text p ∷ decimal uid ∷ decimal gid ∷ []) refl refl
    (rw (named_lacks p h.0, small_lacks uid h.1, small_lacks gid h.2) refl) refl refl (rw (named_read p h.0, small_read uid h.1, small_read gid h.2) refl)
printed_says (Write p offset bytes) h =
    says (Write p offset bytes) verb.Write (codes "write") (place_text p ∷ decimal offset ∷ bytes_text bytes ∷ []) refl refl
    (rw (place_lacks p h.0, large_lacks offset h.1, content_lacks bytes h.2) refl) refl refl (rw (place_read p h.0, large_read offset h.1, content_read bytes h.2) refl)
printed_says (Read p offset count) h =
    says (Read p offset count) verb.Read (codes "read") (place_text p ∷ decimal offset ∷ decimal count ∷ []) refl refl
    (rw (place_lacks p h.0, large_lacks offset h.1, small_lacks count (omega (arith, h.2))) refl) refl refl
    (rw (place_read p h.0, large_read offset h.1, within_read 0 8_192 count (omega arith) h.2 (omega arith)) refl)
printed_says (Truncate p size) h =
    says (Truncate p size) verb.Truncate (codes "truncate") (place_text p ∷ decimal size ∷ []) refl refl
    (rw (place_lacks p h.0, large_lacks size h.1) refl) refl refl (rw (place_read p h.0, large_read size h.1) refl)
printed_says (Rename p to) h =
    says (Rename p to) verb.Rename (codes "rename") (place_text p ∷ path_text to ∷ []) refl refl (rw (named_lacks p h.0, to_lacks to h.1) refl) refl refl
    (rw (named_read p h.0, named_path_read to h.1) refl)
printed_says (Link p to) h =
    says (Link p to) verb.Link (codes "link") (place_text p ∷ path_text to ∷ []) refl refl (rw (named_lacks p h.0, to_lacks to h.1) refl) refl refl
    (rw (named_read p h.0, named_path_read to h.1) refl)
printed_says (Links p) h = of_word (Links p) verb.Links (place_text p) refl refl (place_lacks p h) refl refl (rw (place_read p h) refl)
printed_says (Unlink p) h = of_word (Unlink p) verb.Unlink (place_text p) refl refl (named_lacks p h) refl refl (rw (named_read p h) refl)
printed_says (Rmdir p) h = of_word (Rmdir p) verb.Rmdir (place_text p) refl refl (named_lacks p h) refl refl (rw (named_read p h) refl)
printed_says (ListAt p) h = of_word (ListAt p) verb.List (place_text p) refl refl (place_lacks p h) refl refl (rw (place_read p h) refl)
printed_says (Stat p) h = of_word (Stat p) verb.Stat (place_text p) refl refl (place_lacks p h) refl refl (rw (place_read p h) refl)
printed_says (Fsync p) h = of_word (Fsync p) verb.Fsync (place_text p) refl refl (place_lacks p h) refl refl (rw (place_read p h) refl)
printed_says (Chfile p on) h =
    says (Chfile p on) verb.Chfile (codes "chfile") (codes "-L" ∷ switch_text on ∷ place_text p ∷ []) refl refl
    (rw (switch_lacks on, place_lacks p h) refl) refl refl (rw (switch_read on, place_read p h) refl)
printed_says (Stripe width p) h =
    says (Stripe width p) verb.Stripe (codes "stripe") (codes "-n" ∷ decimal width ∷ place_text p ∷ []) refl refl
    (rw (small_lacks width (omega (arith, h.1)), place_lacks p h.2) refl) refl refl
    (rw (within_read 2 8 width h.0 h.1 (omega arith), place_read p h.2) refl)
printed_says (Showfile p) h = of_word (Showfile p) verb.Showfile (place_text p) refl refl (place_lacks p h) refl refl (rw (place_read p h) refl)
printed_says (Migrate p first count from to) h = printed_migrate p first count from to h
printed_says (Addvol vol) h = of_word (Addvol vol) verb.Addvol (decimal vol) refl refl (small_lacks vol h) refl refl (rw (small_read vol h) refl)
printed_says (Rmvol vol) h = of_word (Rmvol vol) verb.Rmvol (decimal vol) refl refl (small_lacks vol h) refl refl (rw (small_read vol h) refl)
printed_says (ChvolA vol) h =
    says (ChvolA vol) verb.Chvol (codes "chvol") (codes "-A" ∷ decimal vol ∷ []) refl refl (rw (small_lacks vol h) refl) refl refl (rw (small_read vol h) refl)
printed_says (Switchlog vol) h = of_word (Switchlog vol) verb.Switchlog (decimal vol) refl refl (small_lacks vol h) refl refl (rw (small_read vol h) refl)
printed_says (Defragment p) h = of_word (Defragment p) verb.Defragment (place_text p) refl refl (place_lacks p h) refl refl (rw (place_read p h) refl)
printed_says Showfsets h = alone Showfsets verb.Showfsets refl refl refl refl refl
printed_says Sync h = alone Sync verb.Sync refl refl refl refl refl
printed_says Cancel h = alone Cancel verb.Cancel refl refl refl refl refl
printed_says Showfdmn h = alone Showfdmn verb.Showfdmn refl refl refl refl refl
printed_says Balance h = alone Balance verb.Balance refl refl refl refl refl
printed_says Upgrade h = alone Upgrade verb.Upgrade refl refl refl refl refl
