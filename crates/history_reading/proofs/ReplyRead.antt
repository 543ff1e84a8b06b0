-- Replies are read back from their words.
use Rattle.std.proofs.Common.{◌≡◌, ℕ, ◌<◌, ◌^◌, Bool, true, false, cond, not, eqb, Option, Some, None, List, [], ◌∷◌, ◌++◌, map, codes, decimal, refl, sym, ap, subst, ◌∙◌, inl, inr, ◌⊎◌, lit<, arith}
use Rattle.std.specs.List.{All, after_first, list_all, list_any, flat_map, slice_split}
use Rattle.std.specs.Str.{bytes_eq}
use Rattle.std.proofs.lemmas.Bool.Decides.{nat_tests}
use Rattle.std.proofs.lemmas.List.{append_assoc, append-nil}
use Rattle.std.proofs.lemmas.List.Elements.{All-head, All-tail}
use Rattle.std.proofs.lemmas.List.Folds.{list_all-append}
use Rattle.std.proofs.lemmas.Slice.Eq.{bytes_eq-Decides}
use Rattle.script_text.specs.fileset_values.declared.reply.ExtentItem.{ExtentItem}
use Rattle.script_text.specs.fileset_values.declared.reply.FilesetItem.{FilesetItem}
use Rattle.script_text.specs.fileset_values.declared.reply.NameItem.{NameItem}
use Rattle.script_text.specs.fileset_values.declared.reply.Refusal.{Refusal}
use Rattle.script_text.specs.fileset_values.declared.reply.Refusal.TheVariants as refusal
use Rattle.script_text.specs.fileset_values.declared.reply.Reply.{Reply}
use Rattle.script_text.specs.fileset_values.declared.reply.Reply.TheVariants as reply
use Rattle.script_text.specs.fileset_values.declared.reply.VolumeItem.{VolumeItem}
use Rattle.history_reading.specs.declared.kind.AnswerKind.{AnswerKind}
use Rattle.history_reading.specs.declared.kind.AnswerKind.TheVariants as kind
use Rattle.history_reading.specs.Entries.{IsExtentItem, IsFilesetItem, IsNameItem, IsReadable, IsRefusal, IsReply, IsVolumeItem}
use Rattle.history_reading.specs.Reading.{answer_of, extent_item_of, field_of, fileset_item_of, filled, name_item_of, no_room, no_space, original_of, quota_blocks, quota_files, quota_of, read_of, refusal_at, refusal_of, reply_of, stat_of, volume_item_of, volume_of}
use Rattle.script_text.specs.History.{extent_item_text, field_text, fileset_item_text, flag_text, logged_text, name_item_text, refusal_fields, refusal_name, refusal_number, refusal_text, reply_text, reply_words, volume_item_text}
use Rattle.script_text.specs.command_text.Commands.{Words}
use Rattle.script_text.specs.word_forms.Forms.{bytes_of, each, has_length, number_below, run_of, runs_of_word}
use Rattle.script_text.specs.word_forms.Runs.{bytes_text}
use Rattle.script_text.specs.word_forms.Texts.{behind_spaces, name_text}
use Rattle.script_text.specs.word_forms.WellFormed.{is_written_name}
use Rattle.script_text.proofs.OfWordForms.ContentRead.{content_lacks, content_read}
use Rattle.script_text.proofs.OfWordForms.Cuts.{after, all_before, before, both, no, cut_joined, cut_parts, lacks, lacks-list_any, list_any-mid}
use Rattle.script_text.proofs.OfWordForms.Joined.{join_with_byte-cons}
use Rattle.script_text.proofs.OfWordForms.NamesRead.{name_lacks, name_read}
use Rattle.script_text.proofs.OfWordForms.NumbersRead.{large_read, number_lacks, number_lacks_past, number_read, small_read}
use Rattle.script_text.proofs.OfWordForms.PlacesRead.{fileset_lacks, fileset_read, mark_lacks}

each_read : {A : Type 0} (f : List ℕ → Option A) (text : A → List ℕ) (P : A → Type 0) → ((x : A) → P x → f (text x) ≡ Some x)
    → (xs : List A) → All P xs → each f (map text xs) ≡ Some xs
each_read f text P one [] h = refl
each_read f text P one (x ∷ xs) h = rw (one x (All-head P x xs h), each_read f text P one xs (All-tail P x xs h)) refl

all_lack : {A : Type 0} (text : A → List ℕ) (P : A → Type 0) → ((x : A) → P x → lacks 32 (text x) ≡ true)
    → (xs : List A) → All P xs → list_all (lacks 32) (map text xs) ≡ true
all_lack text P one [] h = refl
all_lack text P one (x ∷ xs) h = rw (one x (All-head P x xs h), all_lack text P one xs (All-tail P x xs h)) refl

fits : (n : ℕ) → n < 2 ^ 32 → n < 2 ^ 64
fits n small = omega arith

small_lacks : (n : ℕ) → n < 2 ^ 32 → lacks 32 (decimal n) ≡ true
small_lacks n small = number_lacks 32 n (fits n small) (omega arith)

large_lacks : (n : ℕ) → n < 2 ^ 64 → lacks 32 (decimal n) ≡ true
large_lacks n large = number_lacks 32 n large (omega arith)

-- ** Rows of listings

named : (name : List ℕ) (directory : Bool) → is_written_name name ≡ true
    → name_item_of (name_text name ++ cond directory (codes "/") []) ≡ Some (record { name = name; directory = directory })
unfolding name_item_of
named name true h =
    let e = name_lacks 47 name (inr refl) h in
    rw (before 47 (name_text name) [] e, list_any-mid 47 (name_text name) [], name_read name h) refl
named name false h =
    let e = name_lacks 47 name (inr refl) h in
    rw (append-nil (name_text name), all_before 47 (name_text name) e, lacks-list_any 47 (name_text name) e, name_read name h) refl

name_item_read : (item : NameItem) → IsNameItem item → name_item_of (name_item_text item) ≡ Some item
name_item_read item h = named item.name item.directory h

name_item_lacks : (item : NameItem) → IsNameItem item → lacks 32 (name_item_text item) ≡ true
name_item_lacks item h =
    list_all-append (λ b. not (eqb b 32)) (name_text item.name) (cond item.directory (codes "/") [])
    ∙ rw (name_lacks 32 item.name (inl refl) h) (at item.directory)
  where
    at : (d : Bool) → lacks 32 (cond d (codes "/") []) ≡ true
    at true = refl
    at false = refl

of_fileset : (fileset : List ℕ) (original : Option (List ℕ)) → (let item : FilesetItem = record { fileset = fileset; original = original } in IsFilesetItem item)
    → (let item : FilesetItem = record { fileset = fileset; original = original } in fileset_item_of (fileset_item_text item) ≡ Some item)
unfolding fileset_item_of original_of
of_fileset fileset None h =
    let e = mark_lacks fileset h.0 in
    rw (append-nil fileset, all_before 60 fileset e, lacks-list_any 60 fileset e, fileset_read fileset h.0) refl
of_fileset fileset (Some original) h =
    let e = mark_lacks fileset h.0 in
    rw (before 60 fileset original e, list_any-mid 60 fileset original, after 60 fileset original e, fileset_read fileset h.0, fileset_read original h.1) refl

fileset_item_read : (item : FilesetItem) → IsFilesetItem item → fileset_item_of (fileset_item_text item) ≡ Some item
fileset_item_read item h = of_fileset item.fileset item.original h

fileset_item_lacks : (item : FilesetItem) → IsFilesetItem item → lacks 32 (fileset_item_text item) ≡ true
fileset_item_lacks item h = at item.original h
  where
    at : (original : Option (List ℕ)) → (let i : FilesetItem = record { fileset = item.fileset; original = original } in IsFilesetItem i)
        → (let i : FilesetItem = record { fileset = item.fileset; original = original } in lacks 32 (fileset_item_text i) ≡ true)
    at None k = rw (append-nil item.fileset) (fileset_lacks item.fileset k.0)
    at (Some original) k =
        list_all-append (λ b. not (eqb b 32)) item.fileset (60 ∷ original) ∙ rw (fileset_lacks item.fileset k.0, fileset_lacks original k.1) refl

flag_lacks : (c : ℕ) (has_log closed : Bool) → (c ≡ 32) ⊎ (c ≡ 58) → lacks c (flag_text has_log closed) ≡ true
flag_lacks c true true e = grind (arith, nat_tests)
flag_lacks c true false e = grind (arith, nat_tests)
flag_lacks c false true e = grind (arith, nat_tests)
flag_lacks c false false e = grind (arith, nat_tests)

flag_log : (has_log closed : Bool) → list_any (λ b. eqb b 76) (flag_text has_log closed) ≡ has_log
flag_log true true = refl
flag_log true false = refl
flag_log false true = refl
flag_log false false = refl

flag_closed : (has_log closed : Bool) → list_any (λ b. eqb b 67) (flag_text has_log closed) ≡ closed
flag_closed true true = refl
flag_closed true false = refl
flag_closed false true = refl
flag_closed false false = refl

-- the words of a volume
abbrev volume_words : VolumeItem → Words
volume_words item = decimal item.pages ∷ decimal item.used ∷ decimal item.free ∷ flag_text item.has_log item.closed ∷ []

colon_lacks : (n : ℕ) → n < 2 ^ 32 → lacks 58 (decimal n) ≡ true
colon_lacks n small = number_lacks_past 58 n (fits n small) (omega arith)

volume_item_read : (item : VolumeItem) → IsVolumeItem item → volume_item_of (volume_item_text item) ≡ Some item
unfolding volume_of
volume_item_read item h =
    let others : list_all (lacks 58) (volume_words item) ≡ true =
    rw (colon_lacks item.pages h.1, colon_lacks item.used h.2, colon_lacks item.free h.3, flag_lacks 58 item.has_log item.closed (inr refl)) refl in
    ap volume_of (cut_joined 58 (decimal item.vol) (volume_words item) (colon_lacks item.vol h.0) others)
    ∙ rw (
      small_read item.vol h.0,
      small_read item.pages h.1,
      small_read item.used h.2,
      small_read item.free h.3,
      flag_log item.has_log item.closed,
      flag_closed item.has_log item.closed,
    ) refl

joined_lacks : (words : Words) → list_all (lacks 32) words ≡ true → lacks 32 (flat_map (λ w. 58 ∷ w) words) ≡ true
joined_lacks [] h = refl
joined_lacks (w ∷ ws) h =
    let k = both (lacks 32 w) (list_all (lacks 32) ws) h in
    list_all-append (λ b. not (eqb b 32)) (58 ∷ w) (flat_map (λ v. 58 ∷ v) ws) ∙ rw (k.0, joined_lacks ws k.1) refl

volume_item_lacks : (item : VolumeItem) → IsVolumeItem item → lacks 32 (volume_item_text item) ≡ true
volume_item_lacks item h =
    let others : list_all (lacks 32) (volume_words item) ≡ true =
    rw (small_lacks item.pages h.1, small_lacks item.used h.2, small_lacks item.free h.3, flag_lacks 32 item.has_log item.closed (inl refl)) refl in
    ap (lacks 32) (join_with_byte-cons 58 (decimal item.vol) (volume_words item))
    ∙ list_all-append (λ b. not (eqb b 32)) (decimal item.vol) (flat_map (λ w. 58 ∷ w) (volume_words item))
    ∙ rw (small_lacks item.vol h.0, joined_lacks (volume_words item) others) refl

regroup : (p n v f : List ℕ) → (((((p ++ 43 ∷ []) ++ n) ++ 64 ∷ []) ++ v) ++ 58 ∷ []) ++ f ≡ p ++ 43 ∷ (n ++ 64 ∷ (v ++ 58 ∷ f))
regroup p n v f = simp append_assoc

extent_item_read : (item : ExtentItem) → IsExtentItem item → extent_item_of (extent_item_text item) ≡ Some item
unfolding extent_item_of
extent_item_read item h =
    let p = decimal item.page in
    let n = decimal item.count in
    let v = decimal item.vol in
    let f = decimal item.first in
    let e1 = number_lacks 43 item.page (fits item.page h.0) (omega arith) in
    let e2 = number_lacks_past 64 item.count (fits item.count h.1) (omega arith) in
    let e3 = number_lacks_past 58 item.vol (fits item.vol h.2) (omega arith) in
    ap extent_item_of (regroup p n v f)
    ∙ rw (
      before 43 p (n ++ 64 ∷ (v ++ 58 ∷ f)) e1,
      after 43 p (n ++ 64 ∷ (v ++ 58 ∷ f)) e1,
      before 64 n (v ++ 58 ∷ f) e2,
      after 64 n (v ++ 58 ∷ f) e2,
      before 58 v f e3,
      after 58 v f e3,
      small_read item.page h.0,
      small_read item.count h.1,
      small_read item.vol h.2,
      small_read item.first h.3,
    ) refl

extent_item_lacks : (item : ExtentItem) → IsExtentItem item → lacks 32 (extent_item_text item) ≡ true
extent_item_lacks item h =
    let p = decimal item.page in
    let n = decimal item.count in
    let v = decimal item.vol in
    let f = decimal item.first in
    let q : ℕ → Bool = λ b. not (eqb b 32) in
    ap (lacks 32) (regroup p n v f)
    ∙ list_all-append q p (43 ∷ (n ++ 64 ∷ (v ++ 58 ∷ f)))
    ∙ rw (small_lacks item.page h.0, list_all-append q n (64 ∷ (v ++ 58 ∷ f)), small_lacks item.count h.1, list_all-append q v (58 ∷ f), small_lacks item.vol h.2, small_lacks item.first h.3) refl

-- ** Answers

-- bytes are not written as no bytes are
dash_other : (word bytes : List ℕ) → bytes_of word ≡ Some bytes → not (bytes_eq word (codes "-")) ≡ true
unfolding bytes_of runs_of_word run_of
dash_other word bytes e = at (bytes_eq word (codes "-")) refl
  where
    contrary : word ≡ codes "-" → ⊥
    contrary h =
        let P : List ℕ → Type 0 = λ w. bytes_of w ≡ Some bytes in let g : bytes_of (codes "-") ≡ Some bytes = subst P h e in cc

    at : (t : Bool) → bytes_eq word (codes "-") ≡ t → not t ≡ true
    at true is = absurd (contrary ((bytes_eq-Decides word (codes "-")).0 is))
    at false is = refl

bytes_read : (bytes : List ℕ) → IsReadable bytes → read_of (bytes_text bytes) ≡ Some bytes
unfolding read_of bytes_text
bytes_read [] h = refl
bytes_read (b ∷ bytes) h =
    let size : has_length 1 8_192 (b ∷ bytes) ≡ true = grind (arith, nat_tests, h.0) in
    let read = content_read (b ∷ bytes) (size, h.1) in
    let other : bytes_eq (bytes_text (b ∷ bytes)) (codes "-") ≡ false = no _ (dash_other (bytes_text (b ∷ bytes)) (b ∷ bytes) read) in
    rw (other, read) refl

read_lacks : (bytes : List ℕ) → IsReadable bytes → lacks 32 (bytes_text bytes) ≡ true
unfolding bytes_text
read_lacks [] h = refl
read_lacks (b ∷ bytes) h = let size : has_length 1 8_192 (b ∷ bytes) ≡ true = grind (arith, nat_tests, h.0) in content_lacks (b ∷ bytes) (size, h.1)

logged_lacks : (logged : Bool) → lacks 32 (logged_text logged) ≡ true
logged_lacks true = refl
logged_lacks false = refl

logged_read : (logged : Bool) → bytes_eq (logged_text logged) (codes "log") ≡ logged
logged_read true = refl
logged_read false = refl

-- ** Refusals

field_read : (limit n : ℕ) (name : List ℕ) → n < limit → n < 2 ^ 64 → lacks 61 name ≡ true → field_of limit (field_text name n) ≡ Some n
unfolding field_of field_text
field_read limit n name small large e =
    ap (λ bs. number_below limit (after_first (λ b. eqb b 61) bs)) (append_assoc name (61 ∷ []) (decimal n))
    ∙ rw (after 61 name (decimal n) e) (number_read limit n small large)

field_lacks : (n : ℕ) (name : List ℕ) → n < 2 ^ 64 → lacks 32 name ≡ true → lacks 32 (field_text name n) ≡ true
unfolding field_text
field_lacks n name large e =
    ap (lacks 32) (append_assoc name (61 ∷ []) (decimal n)) ∙ list_all-append (λ b. not (eqb b 32)) name (61 ∷ decimal n) ∙ rw (e, large_lacks n large) refl

refusal_from : (r without : Refusal) → refusal_number r < 2 ^ 64 → refusal_at (refusal_number r) ≡ Some without → filled without (refusal_fields r) ≡ Some r
    → refusal_of (codes "E" ++ decimal (refusal_number r)) (refusal_name r ∷ refusal_fields r) ≡ Some r
unfolding refusal_of
refusal_from r without small at_number all = rw (large_read (refusal_number r) small, at_number) all

refusal_read : (r : Refusal) → IsRefusal r → refusal_of (codes "E" ++ decimal (refusal_number r)) (refusal_name r ∷ refusal_fields r) ≡ Some r
unfolding refusal_number refusal_at refusal_fields quota_files quota_blocks no_space no_room
refusal_read (refusal.QuotaFiles limit used) h =
    refusal_from (refusal.QuotaFiles limit used) (refusal.QuotaFiles 0 0) (lit< tt) refl
    (rw (field_read (2 ^ 64) limit (codes "limit") h.0 h.0 refl, field_read (2 ^ 64) used (codes "used") h.1 h.1 refl) refl)
refusal_read (refusal.QuotaBlocks limit used asked) h =
    refusal_from (refusal.QuotaBlocks limit used asked) (refusal.QuotaBlocks 0 0 0) (lit< tt) refl
    (rw (field_read (2 ^ 64) limit (codes "limit") h.0 h.0 refl, field_read (2 ^ 64) used (codes "used") h.1 h.1 refl, field_read (2 ^ 64) asked (codes "asked") h.2 h.2 refl) refl)
refusal_read (refusal.NoSpace free need) h =
    refusal_from (refusal.NoSpace free need) (refusal.NoSpace 0 0) (lit< tt) refl
    (rw (field_read (2 ^ 64) free (codes "free") h.0 h.0 refl, field_read (2 ^ 64) need (codes "need") h.1 h.1 refl) refl)
refusal_read (refusal.NoRoom vol free) h =
    refusal_from (refusal.NoRoom vol free) (refusal.NoRoom 0 0) (lit< tt) refl
    (rw (field_read (2 ^ 32) vol (codes "vol") h.0 (fits vol h.0) refl, field_read (2 ^ 64) free (codes "free") h.1 h.1 refl) refl)
refusal_read (refusal.ReadFault vol) h =
    refusal_from (refusal.ReadFault vol) (refusal.ReadFault 0) (lit< tt) refl (rw (field_read (2 ^ 32) vol (codes "vol") h (fits vol h) refl) refl)
refusal_read (refusal.Panicked vol) h =
    refusal_from (refusal.Panicked vol) (refusal.Panicked 0) (lit< tt) refl (rw (field_read (2 ^ 32) vol (codes "vol") h (fits vol h) refl) refl)
refusal_read (refusal.Unsettled moved) h =
    refusal_from (refusal.Unsettled moved) (refusal.Unsettled 0) (lit< tt) refl (rw (field_read (2 ^ 64) moved (codes "moved") h h refl) refl)
refusal_read r h = refusal_from r r (lit< tt) refl refl

-- what is known of the words of a refusal
record HasWords (r : Refusal) : Type 0 where
  small : refusal_number r < 2 ^ 64
  name : lacks 32 (refusal_name r) ≡ true
  fields : list_all (lacks 32) (refusal_fields r) ≡ true

refusal_words : (r : Refusal) → IsRefusal r → HasWords r
unfolding refusal_number refusal_name refusal_fields
refusal_words (refusal.QuotaFiles limit used) h = record {
  small = lit< tt;
  name = refl;
  fields = rw (field_lacks limit (codes "limit") h.0 refl, field_lacks used (codes "used") h.1 refl) refl;
}
refusal_words (refusal.QuotaBlocks limit used asked) h = record {
  small = lit< tt;
  name = refl;
  fields = rw (field_lacks limit (codes "limit") h.0 refl, field_lacks used (codes "used") h.1 refl, field_lacks asked (codes "asked") h.2 refl) refl;
}
refusal_words (refusal.NoSpace free need) h = record {
  small = lit< tt;
  name = refl;
  fields = rw (field_lacks free (codes "free") h.0 refl, field_lacks need (codes "need") h.1 refl) refl;
}
refusal_words (refusal.NoRoom vol free) h = record {
  small = lit< tt;
  name = refl;
  fields = rw (field_lacks vol (codes "vol") (fits vol h.0) refl, field_lacks free (codes "free") h.1 refl) refl;
}
refusal_words (refusal.ReadFault vol) h = record { small = lit< tt; name = refl; fields = rw (field_lacks vol (codes "vol") (fits vol h) refl) refl }
refusal_words (refusal.Panicked vol) h = record { small = lit< tt; name = refl; fields = rw (field_lacks vol (codes "vol") (fits vol h) refl) refl }
refusal_words (refusal.Unsettled moved) h = record { small = lit< tt; name = refl; fields = rw (field_lacks moved (codes "moved") h refl) refl }
refusal_words r h = record { small = lit< tt; name = refl; fields = refl }

-- ** Replies

-- the words of a reply
abbrev pub reply_parts : Reply → Words
reply_parts (reply.Refused r) = (codes "E" ++ decimal (refusal_number r)) ∷ refusal_name r ∷ refusal_fields r
reply_parts r = codes "ok" ∷ reply_words r

regrouped : (code name behind : List ℕ) → ((code ++ 32 ∷ []) ++ name) ++ behind ≡ code ++ (32 ∷ name ++ behind)
regrouped code name behind = simp append_assoc

refusal_cut : (r : Refusal) → IsRefusal r → slice_split (λ b. eqb b 32) (refusal_text r) ≡ (codes "E" ++ decimal (refusal_number r)) ∷ refusal_name r ∷ refusal_fields r
unfolding refusal_text
refusal_cut r h =
    let w = refusal_words r h in
    let code = codes "E" ++ decimal (refusal_number r) in
    ap (slice_split (λ b. eqb b 32)) (regrouped code (refusal_name r) (behind_spaces (refusal_fields r)))
    ∙ cut_parts 32 code (refusal_name r ∷ refusal_fields r) (large_lacks (refusal_number r) w.small) (rw (w.name, w.fields) refl)

-- an answer is read back, and none of its words has a space
record Answers (k : AnswerKind) (r : Reply) : Type 0 where
  read : answer_of k (reply_words r) ≡ Some r
  lack : list_all (lacks 32) (reply_words r) ≡ true

file_stat : (uid gid size pages : ℕ) (logged : Bool) → IsReply kind.Stat (reply.FileStat uid gid size pages logged) → Answers kind.Stat (reply.FileStat uid gid size pages logged)
unfolding stat_of
file_stat uid gid size pages logged h = record {
  read = rw (small_read uid h.0, small_read gid h.1, large_read size h.2, small_read pages h.3, logged_read logged) refl;
  lack = rw (small_lacks uid h.0, small_lacks gid h.1, large_lacks size h.2, small_lacks pages h.3, logged_lacks logged) refl;
}

dir_stat : (uid gid rows : ℕ) → IsReply kind.Stat (reply.DirStat uid gid rows) → Answers kind.Stat (reply.DirStat uid gid rows)
unfolding stat_of
dir_stat uid gid rows h = record {
  read = rw (small_read uid h.0, small_read gid h.1, small_read rows h.2) refl;
  lack = rw (small_lacks uid h.0, small_lacks gid h.1, small_lacks rows h.2) refl;
}

quota : (files files_limit blocks blocks_limit : ℕ) → IsReply kind.Quota (reply.Quota files files_limit blocks blocks_limit)
    → Answers kind.Quota (reply.Quota files files_limit blocks blocks_limit)
unfolding quota_of
quota files files_limit blocks blocks_limit h = record {
  read = rw (large_read files h.0, large_read files_limit h.1, large_read blocks h.2, large_read blocks_limit h.3) refl;
  lack = rw (large_lacks files h.0, large_lacks files_limit h.1, large_lacks blocks h.2, large_lacks blocks_limit h.3) refl;
}

answered : (k : AnswerKind) (r : Reply) → Answers k r → reply_text r ≡ codes "ok" ++ behind_spaces (reply_words r) → reply_parts r ≡ codes "ok" ∷ reply_words r
    → (slice_split (λ b. eqb b 32) (reply_text r) ≡ reply_parts r) × (reply_of k (reply_parts r) ≡ Some r)
unfolding reply_of
answered k r a text parts = (
  ap (slice_split (λ b. eqb b 32)) text ∙ cut_parts 32 (codes "ok") (reply_words r) refl a.lack ∙ sym parts,
  ap (reply_of k) parts ∙ a.read,
)

-- the text of a reply is cut into its words, which are read back
pub reply_read : (k : AnswerKind) (r : Reply) → IsReply k r → (slice_split (λ b. eqb b 32) (reply_text r) ≡ reply_parts r) × (reply_of k (reply_parts r) ≡ Some r)
unfolding reply_text reply_of
reply_read k (reply.Refused r) h = (refusal_cut r h, rw (refusal_read r h) refl)
reply_read kind.Done reply.Done h = answered kind.Done reply.Done (record { read = refl; lack = refl }) refl refl
reply_read kind.Count (reply.Count n) h =
    answered kind.Count (reply.Count n) (record { read = rw (large_read n h) refl; lack = rw (large_lacks n h) refl }) refl refl
reply_read kind.Read (reply.Read bytes) h =
    answered kind.Read (reply.Read bytes) (record { read = rw (bytes_read bytes h) refl; lack = rw (read_lacks bytes h) refl }) refl refl
reply_read kind.Names (reply.Names names) h =
    answered kind.Names (reply.Names names) (record {
      read = rw (each_read name_item_of name_item_text IsNameItem name_item_read names h) refl;
      lack = all_lack name_item_text IsNameItem name_item_lacks names h;
    }) refl refl
reply_read kind.Stat (reply.FileStat uid gid size pages logged) h = answered kind.Stat (reply.FileStat uid gid size pages logged) (file_stat uid gid size pages logged h) refl refl
reply_read kind.Stat (reply.DirStat uid gid rows) h = answered kind.Stat (reply.DirStat uid gid rows) (dir_stat uid gid rows h) refl refl
reply_read kind.Filesets (reply.Filesets filesets) h =
    answered kind.Filesets (reply.Filesets filesets) (record {
      read = rw (each_read fileset_item_of fileset_item_text IsFilesetItem fileset_item_read filesets h) refl;
      lack = all_lack fileset_item_text IsFilesetItem fileset_item_lacks filesets h;
    }) refl refl
reply_read kind.Quota (reply.Quota files files_limit blocks blocks_limit) h =
    answered kind.Quota (reply.Quota files files_limit blocks blocks_limit) (quota files files_limit blocks blocks_limit h) refl refl
reply_read kind.Volumes (reply.Volumes volumes) h =
    answered kind.Volumes (reply.Volumes volumes) (record {
      read = rw (each_read volume_item_of volume_item_text IsVolumeItem volume_item_read volumes h) refl;
      lack = all_lack volume_item_text IsVolumeItem volume_item_lacks volumes h;
    }) refl refl
reply_read kind.Extents (reply.Extents extents) h =
    answered kind.Extents (reply.Extents extents) (record {
      read = rw (each_read extent_item_of extent_item_text IsExtentItem extent_item_read extents h) refl;
      lack = all_lack extent_item_text IsExtentItem extent_item_lacks extents h;
    }) refl refl
reply_read k r h = absurd h
