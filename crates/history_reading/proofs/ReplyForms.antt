-- What words were read as is a reply whose parts are of the forms of their words.
use Rattle.std.proofs.Common.{◌≡◌, ℕ, ◌<◌, ◌≤◌, ◌^◌, Bool, true, false, cond, eqb, Option, Some, None, MatchOption, option_map, List, [], ◌∷◌, length, codes, refl, subst, arith}
use Rattle.std.specs.List.{All, after_first, before_first, list_any, slice_split}
use Rattle.std.specs.Str.{bytes_eq}
use Rattle.std.proofs.lemmas.Bool.Decides.{nat_tests}
use Rattle.std.proofs.lemmas.List.Elements.{All-cons, All-nil}
use Rattle.std.proofs.lemmas.Option.{option_and_then_some}
use Rattle.script_text.specs.fileset_values.declared.reply.ExtentItem.{ExtentItem}
use Rattle.script_text.specs.fileset_values.declared.reply.FilesetItem.{FilesetItem}
use Rattle.script_text.specs.fileset_values.declared.reply.NameItem.{NameItem}
use Rattle.script_text.specs.fileset_values.declared.reply.Refusal.{Refusal}
use Rattle.script_text.specs.fileset_values.declared.reply.Refusal.TheVariants as refusal
use Rattle.script_text.specs.fileset_values.declared.reply.Reply.{Reply}
use Rattle.script_text.specs.fileset_values.declared.reply.Reply.TheVariants as reply
use Rattle.script_text.specs.fileset_values.declared.reply.VolumeItem.{VolumeItem}
use Rattle.history_reading.specs.declared.kind.AnswerKind.{AnswerKind}
use Rattle.history_reading.specs.declared.kind.AnswerKind.TheVariants as kind
use Rattle.history_reading.specs.Entries.{IsExtentItem, IsFilesetItem, IsNameItem, IsReadable, IsRefusal, IsReply, IsVolumeItem}
use Rattle.history_reading.specs.Reading.{answer_of, extent_item_of, field_of, fileset_item_of, filled, name_item_of, no_room, no_space, original_of, quota_blocks, quota_files, quota_of, read_of, refusal_at, refusal_of, reply_of, stat_of, volume_item_of, volume_of}
use Rattle.script_text.specs.command_text.Commands.{Words, no_word, one_word}
use Rattle.script_text.specs.word_forms.Forms.{bytes_of, each, fileset_of, name_of, number_below}
use Rattle.script_text.specs.word_forms.WellFormed.{IsFileset, IsLarge, IsSmall}
use Rattle.script_text.proofs.OfWordForms.ReadForms.{below_is, content_is, fileset_is, map_some, name_is, some_same}

each_all : {A B : Type 0} (f : A → Option B) (P : B → Type 0) → ((x : A) (y : B) → f x ≡ Some y → P y)
    → (xs : List A) (ys : List B) → each f xs ≡ Some ys → All P ys
each_all {A} {B} f P one [] ys e = let Q : List B → Type 0 = λ l. All P l in subst Q (some_same [] ys e) (All-nil P)
each_all {A} {B} f P one (x ∷ xs) ys e =
    option_and_then_some _ (f x) ys e (λ y is more.
    option_and_then_some _ (each f xs) ys more (λ zs are last.
    let Q : List B → Type 0 = λ l. All P l in
    subst Q (some_same (y ∷ zs) ys last) (All-cons P y zs (one x y is) (each_all f P one xs zs are))))

small : (word : List ℕ) (n : ℕ) → number_below (2 ^ 32) word ≡ Some n → IsSmall n
small word n e = below_is (2 ^ 32) word n e

large : (word : List ℕ) (n : ℕ) → number_below (2 ^ 64) word ≡ Some n → IsLarge n
large word n e = below_is (2 ^ 64) word n e

-- ** Rows of listings

name_item_is : (word : List ℕ) (item : NameItem) → name_item_of word ≡ Some item → IsNameItem item
unfolding name_item_of
name_item_is word item e =
    option_and_then_some _ (name_of (before_first (λ b. eqb b 47) word)) item e (λ name is last.
    let P : NameItem → Type 0 = IsNameItem in
    subst P (some_same _ item last) (name_is (before_first (λ b. eqb b 47) word) name is))

abbrev IsOriginal : Option (List ℕ) → Type 0
IsOriginal original = MatchOption original (Unit {0}) IsFileset

original_is : (word : List ℕ) (original : Option (List ℕ)) → original_of word ≡ Some original → IsOriginal original
unfolding original_of
original_is word original e = at (list_any (λ b. eqb b 60) word) e
  where
    P : Option (List ℕ) → Type 0
    P = IsOriginal

    at : (t : Bool) → cond t (option_map Some (fileset_of (after_first (λ b. eqb b 60) word))) (Some None) ≡ Some original → IsOriginal original
    at true h =
        map_some Some (fileset_of (after_first (λ b. eqb b 60) word)) original (IsOriginal original) h (λ name is last.
        let Q : Option (List ℕ) → Type 0 = IsOriginal in subst Q last (fileset_is (after_first (λ b. eqb b 60) word) name is))
    at false h = let Q : Option (List ℕ) → Type 0 = IsOriginal in subst Q (some_same None original h) tt

fileset_item_is : (word : List ℕ) (item : FilesetItem) → fileset_item_of word ≡ Some item → IsFilesetItem item
unfolding fileset_item_of
fileset_item_is word item e =
    option_and_then_some _ (fileset_of (before_first (λ b. eqb b 60) word)) item e (λ fileset is more.
    option_and_then_some _ (original_of word) item more (λ original too last.
    let P : FilesetItem → Type 0 = IsFilesetItem in
    subst P (some_same _ item last) (fileset_is (before_first (λ b. eqb b 60) word) fileset is, original_is word original too)))

volume_is : (words : Words) (item : VolumeItem) → volume_of words ≡ Some item → IsVolumeItem item
unfolding volume_of
volume_is (v ∷ p ∷ u ∷ f ∷ flag ∷ []) item e =
    option_and_then_some _ (number_below (2 ^ 32) v) item e (λ vol e1 h1.
    option_and_then_some _ (number_below (2 ^ 32) p) item h1 (λ pages e2 h2.
    option_and_then_some _ (number_below (2 ^ 32) u) item h2 (λ used e3 h3.
    option_and_then_some _ (number_below (2 ^ 32) f) item h3 (λ free e4 h4.
    let P : VolumeItem → Type 0 = IsVolumeItem in
    subst P (some_same _ item h4) (small v vol e1, small p pages e2, small u used e3, small f free e4)))))
volume_is words item e = absurd (cc)

extent_item_is : (word : List ℕ) (item : ExtentItem) → extent_item_of word ≡ Some item → IsExtentItem item
unfolding extent_item_of
extent_item_is word item e =
    let behind_page = after_first (λ b. eqb b 43) word in
    let behind_count = after_first (λ b. eqb b 64) behind_page in
    let p = before_first (λ b. eqb b 43) word in
    let n = before_first (λ b. eqb b 64) behind_page in
    let v = before_first (λ b. eqb b 58) behind_count in
    let f = after_first (λ b. eqb b 58) behind_count in
    option_and_then_some _ (number_below (2 ^ 32) p) item e (λ page e1 h1.
    option_and_then_some _ (number_below (2 ^ 32) n) item h1 (λ count e2 h2.
    option_and_then_some _ (number_below (2 ^ 32) v) item h2 (λ vol e3 h3.
    option_and_then_some _ (number_below (2 ^ 32) f) item h3 (λ first e4 h4.
    let P : ExtentItem → Type 0 = IsExtentItem in
    subst P (some_same _ item h4) (small p page e1, small n count e2, small v vol e3, small f first e4)))))

-- ** Answers

read_is : (word bytes : List ℕ) → read_of word ≡ Some bytes → IsReadable bytes
unfolding read_of
read_is word bytes e = at (bytes_eq word (codes "-")) e
  where
    at : (t : Bool) → cond t (Some []) (bytes_of word) ≡ Some bytes → IsReadable bytes
    at true h = subst IsReadable (some_same [] bytes h) (omega arith, refl)
    at false h = let c = content_is word bytes h in let short : length bytes ≤ 8_192 = grind (arith, nat_tests, c.0) in (short, c.1)

-- an answer of one word
one_answer : {A : Type 0} (form : List ℕ → Option A) (P : A → Type 0) → ((w : List ℕ) (x : A) → form w ≡ Some x → P x)
    → (k : AnswerKind) (make : A → Reply) → ((x : A) → P x → IsReply k (make x))
    → (words : Words) (r : Reply) → option_map make (one_word form words) ≡ Some r → IsReply k r
one_answer form P is k make well [] r e = absurd (cc)
one_answer form P is k make well (w ∷ []) r e =
    map_some make (form w) r (IsReply k r) e (λ x here last.
    let Q : Reply → Type 0 = IsReply k in subst Q last (well x (is w x here)))
one_answer form P is k make well (w ∷ v ∷ ws) r e = absurd (cc)

-- an answer of rows
rows_answer : {A : Type 0} (form : List ℕ → Option A) (P : A → Type 0) → ((w : List ℕ) (x : A) → form w ≡ Some x → P x)
    → (k : AnswerKind) (make : List A → Reply) → ((xs : List A) → All P xs → IsReply k (make xs))
    → (words : Words) (r : Reply) → option_map make (each form words) ≡ Some r → IsReply k r
rows_answer form P is k make well words r e =
    map_some make (each form words) r (IsReply k r) e (λ xs here last.
    let Q : Reply → Type 0 = IsReply k in subst Q last (well xs (each_all form P is words xs here)))

stat_is : (words : Words) (r : Reply) → stat_of words ≡ Some r → IsReply kind.Stat r
unfolding stat_of
stat_is (name ∷ u ∷ g ∷ s ∷ p ∷ l ∷ []) r e =
    option_and_then_some _ (number_below (2 ^ 32) u) r e (λ uid e1 h1.
    option_and_then_some _ (number_below (2 ^ 32) g) r h1 (λ gid e2 h2.
    option_and_then_some _ (number_below (2 ^ 64) s) r h2 (λ size e3 h3.
    option_and_then_some _ (number_below (2 ^ 32) p) r h3 (λ pages e4 h4.
    let P : Reply → Type 0 = IsReply kind.Stat in
    subst P (some_same _ r h4) (small u uid e1, small g gid e2, large s size e3, small p pages e4)))))
stat_is (name ∷ u ∷ g ∷ w ∷ []) r e =
    option_and_then_some _ (number_below (2 ^ 32) u) r e (λ uid e1 h1.
    option_and_then_some _ (number_below (2 ^ 32) g) r h1 (λ gid e2 h2.
    option_and_then_some _ (number_below (2 ^ 32) w) r h2 (λ rows e3 h3.
    let P : Reply → Type 0 = IsReply kind.Stat in
    subst P (some_same _ r h3) (small u uid e1, small g gid e2, small w rows e3))))
stat_is words r e = absurd (cc)

quota_is : (words : Words) (r : Reply) → quota_of words ≡ Some r → IsReply kind.Quota r
unfolding quota_of
quota_is (name ∷ n ∷ n_limit ∷ other ∷ b ∷ b_limit ∷ []) r e =
    option_and_then_some _ (number_below (2 ^ 64) n) r e (λ files e1 h1.
    option_and_then_some _ (number_below (2 ^ 64) n_limit) r h1 (λ files_limit e2 h2.
    option_and_then_some _ (number_below (2 ^ 64) b) r h2 (λ blocks e3 h3.
    option_and_then_some _ (number_below (2 ^ 64) b_limit) r h3 (λ blocks_limit e4 h4.
    let P : Reply → Type 0 = IsReply kind.Quota in
    subst P (some_same _ r h4) (large n files e1, large n_limit files_limit e2, large b blocks e3, large b_limit blocks_limit e4)))))
quota_is words r e = absurd (cc)

done_is : (words : Words) (r : Reply) → no_word reply.Done words ≡ Some r → IsReply kind.Done r
done_is [] r e = let P : Reply → Type 0 = IsReply kind.Done in subst P (some_same reply.Done r e) tt
done_is (w ∷ ws) r e = absurd (cc)

answer_is : (k : AnswerKind) (words : Words) (r : Reply) → answer_of k words ≡ Some r → IsReply k r
answer_is kind.Done words r e = done_is words r e
answer_is kind.Count words r e = one_answer (number_below (2 ^ 64)) IsLarge large kind.Count reply.Count (λ x h. h) words r e
answer_is kind.Read words r e = one_answer read_of IsReadable read_is kind.Read reply.Read (λ x h. h) words r e
answer_is kind.Names words r e = rows_answer name_item_of IsNameItem name_item_is kind.Names reply.Names (λ xs h. h) words r e
answer_is kind.Stat words r e = stat_is words r e
answer_is kind.Filesets words r e = rows_answer fileset_item_of IsFilesetItem fileset_item_is kind.Filesets reply.Filesets (λ xs h. h) words r e
answer_is kind.Quota words r e = quota_is words r e
answer_is kind.Volumes words r e =
    rows_answer volume_item_of IsVolumeItem (λ w x h. volume_is (slice_split (λ b. eqb b 58) w) x h) kind.Volumes reply.Volumes (λ xs h. h) words r e
answer_is kind.Extents words r e = rows_answer extent_item_of IsExtentItem extent_item_is kind.Extents reply.Extents (λ xs h. h) words r e

-- ** Refusals

field_is : (limit : ℕ) (word : List ℕ) (n : ℕ) → field_of limit word ≡ Some n → n < limit
unfolding field_of
field_is limit word n e = below_is limit (after_first (λ b. eqb b 61) word) n e

refused : (said r : Refusal) → Some said ≡ Some r → IsRefusal said → IsRefusal r
refused said r e well = let P : Refusal → Type 0 = IsRefusal in subst P (some_same said r e) well

alone_is : (said : Refusal) (fields : Words) (r : Refusal) → no_word said fields ≡ Some r → IsRefusal said → IsRefusal r
alone_is said [] r e well = refused said r e well
alone_is said (w ∷ ws) r e well = absurd (cc)

one_field_is : (limit : ℕ) (make : ℕ → Refusal) → ((n : ℕ) → n < limit → IsRefusal (make n))
    → (fields : Words) (r : Refusal) → option_map make (one_word (field_of limit) fields) ≡ Some r → IsRefusal r
one_field_is limit make well [] r e = absurd (cc)
one_field_is limit make well (w ∷ []) r e =
    map_some make (field_of limit w) r (IsRefusal r) e (λ n here last.
    let P : Refusal → Type 0 = IsRefusal in subst P last (well n (field_is limit w n here)))
one_field_is limit make well (w ∷ v ∷ ws) r e = absurd (cc)

quota_files_is : (fields : Words) (r : Refusal) → quota_files fields ≡ Some r → IsRefusal r
unfolding quota_files
quota_files_is (l ∷ u ∷ []) r e =
    option_and_then_some _ (field_of (2 ^ 64) l) r e (λ limit e1 h1.
    option_and_then_some _ (field_of (2 ^ 64) u) r h1 (λ used e2 h2.
    refused (refusal.QuotaFiles limit used) r h2 (field_is (2 ^ 64) l limit e1, field_is (2 ^ 64) u used e2)))
quota_files_is fields r e = absurd (cc)

quota_blocks_is : (fields : Words) (r : Refusal) → quota_blocks fields ≡ Some r → IsRefusal r
unfolding quota_blocks
quota_blocks_is (l ∷ u ∷ n ∷ []) r e =
    option_and_then_some _ (field_of (2 ^ 64) l) r e (λ limit e1 h1.
    option_and_then_some _ (field_of (2 ^ 64) u) r h1 (λ used e2 h2.
    option_and_then_some _ (field_of (2 ^ 64) n) r h2 (λ asked e3 h3.
    refused (refusal.QuotaBlocks limit used asked) r h3
    (field_is (2 ^ 64) l limit e1, field_is (2 ^ 64) u used e2, field_is (2 ^ 64) n asked e3))))
quota_blocks_is fields r e = absurd (cc)

no_space_is : (fields : Words) (r : Refusal) → no_space fields ≡ Some r → IsRefusal r
unfolding no_space
no_space_is (f ∷ n ∷ []) r e =
    option_and_then_some _ (field_of (2 ^ 64) f) r e (λ free e1 h1.
    option_and_then_some _ (field_of (2 ^ 64) n) r h1 (λ need e2 h2.
    refused (refusal.NoSpace free need) r h2 (field_is (2 ^ 64) f free e1, field_is (2 ^ 64) n need e2)))
no_space_is fields r e = absurd (cc)

no_room_is : (fields : Words) (r : Refusal) → no_room fields ≡ Some r → IsRefusal r
unfolding no_room
no_room_is (v ∷ f ∷ []) r e =
    option_and_then_some _ (field_of (2 ^ 32) v) r e (λ vol e1 h1.
    option_and_then_some _ (field_of (2 ^ 64) f) r h1 (λ free e2 h2.
    refused (refusal.NoRoom vol free) r h2 (field_is (2 ^ 32) v vol e1, field_is (2 ^ 64) f free e2)))
no_room_is fields r e = absurd (cc)

filled_is : (said : Refusal) (fields : Words) (r : Refusal) → filled said fields ≡ Some r → IsRefusal r
filled_is (refusal.QuotaFiles a b) fields r e = quota_files_is fields r e
filled_is (refusal.QuotaBlocks a b c) fields r e = quota_blocks_is fields r e
filled_is (refusal.NoSpace a b) fields r e = no_space_is fields r e
filled_is (refusal.NoRoom a b) fields r e = no_room_is fields r e
filled_is (refusal.ReadFault a) fields r e = one_field_is (2 ^ 32) refusal.ReadFault (λ n h. h) fields r e
filled_is (refusal.Panicked a) fields r e = one_field_is (2 ^ 32) refusal.Panicked (λ n h. h) fields r e
filled_is (refusal.Unsettled a) fields r e = one_field_is (2 ^ 64) refusal.Unsettled (λ n h. h) fields r e
filled_is said fields r e = alone_is said fields r e tt

refusal_is : (first : List ℕ) (words : Words) (r : Refusal) → refusal_of first words ≡ Some r → IsRefusal r
unfolding refusal_of
refusal_is (mark ∷ digits) (name ∷ fields) r e =
    option_and_then_some _ (number_below (2 ^ 64) digits) r e (λ number e1 h1.
    option_and_then_some _ (refusal_at number) r h1 (λ said e2 h2. filled_is said fields r h2))
refusal_is first words r e = absurd (cc)

pub reply_is : (k : AnswerKind) (words : Words) (r : Reply) → reply_of k words ≡ Some r → IsReply k r
unfolding reply_of
reply_is k [] r e = absurd (cc)
reply_is k (first ∷ words) r e = at (bytes_eq first (codes "ok")) e
  where
    at : (t : Bool) → cond t (answer_of k words) (option_map reply.Refused (refusal_of first words)) ≡ Some r → IsReply k r
    at true h = answer_is k words r h
    at false h =
        map_some reply.Refused (refusal_of first words) r (IsReply k r) h (λ said is last.
        let P : Reply → Type 0 = IsReply k in subst P last (refusal_is first words said is))
