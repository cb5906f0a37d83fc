-- Objects that are sent field by field: what their fields come to, and that none has a float.
use Rattle.std.proofs.Common.{◌≡◌, ◌==◌, ℕ, suc, List, [], ◌∷◌, ◌++◌, length, Bool, true, false, ◌||◌, Some, if◌then◌else◌, Less, refl, sym, ap, ◌∙◌, subst, arith}
use Rattle.std.specs.Str.{IsUtf8}
use Rattle.std.specs.Str.Lossy.{utf8_valid_len}
use Rattle.std.proofs.lemmas.Str.{utf8_valid_len-IsUtf8}
use Rattle.std.proofs.lemmas.Bool.Decides.{nat_tests}
use Rattle.std.specs.Ordering.{nat_cmp}
use Rattle.std.specs.Cmp.Lexicographic.{slice_cmp}
use Rattle.serde.specs.Event.{Log, Logs, map_begins, map_ends}
use Rattle.serde_json.specs.Data.{Data, Members, no_members, member, put, object}
use Rattle.serde_json.specs.Events.{SendsValue, SendsMembers, members_len, items_len}
use Rattle.serde_json.specs.Written.{has_float, members_have_float}
use Rattle.request_json.specs.Replies.{members_of, object_of, items_of, list_of, count}
use Rattle.request_json.specs.Sending.{SendsField, SendsFields}

-- each key comes before the next
abbrev pub IsSorted : List (List ℕ × Data) → Type 0
IsSorted [] = Unit {0}
IsSorted (f ∷ []) = Unit {0}
IsSorted (f ∷ (g ∷ fs)) = (slice_cmp nat_cmp f.0 g.0 ≡ Less) × IsSorted (g ∷ fs)

abbrev in_turn : List (List ℕ × Data) → Members
in_turn [] = no_members
in_turn (f ∷ fs) = member f.0 f.1 (in_turn fs)

first_put : (k l : List ℕ) (d e : Data) (ms : Members) → slice_cmp nat_cmp k l ≡ Less → put k d (member l e ms) ≡ member k d (member l e ms)
first_put k l d e ms less = rw less refl

members_in_turn : (fs : List (List ℕ × Data)) → IsSorted fs → members_of fs ≡ in_turn fs
members_in_turn [] h = refl
members_in_turn (f ∷ []) h = refl
members_in_turn (f ∷ (g ∷ fs)) h = ap (put f.0 f.1) (members_in_turn (g ∷ fs) h.1) ∙ first_put f.0 g.0 f.1 g.1 (in_turn fs) h.0

count_in_turn : (fs : List (List ℕ × Data)) → members_len (in_turn fs) ≡ length fs
count_in_turn [] = refl
count_in_turn (f ∷ fs) = ap suc (count_in_turn fs)

sent_in_turn : (fs : List (List ℕ × Data)) (old last new : Log) → SendsFields fs old last → Logs last new map_ends → SendsMembers (in_turn fs) old new
sent_in_turn [] old last new sent ended = subst (λ l. Logs l new map_ends) sent ended
sent_in_turn (f ∷ fs) old last new sent ended = (sent.1.0, sent.0, sent.1.1, sent.1.2, sent_in_turn fs sent.0 last new sent.2 ended)

-- an object, its fields between its two marks
pub object_sent : (fs : List (List ℕ × Data)) → IsSorted fs → (old first last new : Log) → Logs old first (map_begins (Some (length fs))) → SendsFields fs first last → Logs last new map_ends → SendsValue (object_of fs) old new
object_sent fs sorted old first last new begun sent ended =
    subst (λ ms. SendsValue (object ms) old new) (sym (members_in_turn fs sorted))
    (first, subst (λ n. Logs old first (map_begins (Some n))) (sym (count_in_turn fs)) begun, sent_in_turn fs first last new sent ended)

-- ---- lists

pub count_items : {A : Type 0} (f : A → Data) (xs : List A) → items_len (items_of f xs) ≡ length xs
count_items f [] = refl
count_items f (x ∷ xs) = ap suc (count_items f xs)

-- ---- texts

-- bytes that are UTF-8 are their text
pub text_whole : (bytes : List ℕ) → IsUtf8 bytes → (if utf8_valid_len bytes == length bytes then bytes else []) ≡ bytes
text_whole bytes is =
    let same : utf8_valid_len bytes ≡ length bytes = utf8_valid_len-IsUtf8 bytes is in
    let whole : (utf8_valid_len bytes == length bytes) ≡ true = grind (arith, nat_tests) in
    rw whole refl

-- ---- fields, one after another

pub one_field : (k : List ℕ) (v : Data) (old new : Log) → SendsField k v old new → SendsFields ((k, v) ∷ []) old new
one_field k v old new a = (new, a, refl)

pub two_fields : (k l : List ℕ) (v w : Data) (old mid new : Log) → SendsField k v old mid → SendsField l w mid new → SendsFields ((k, v) ∷ (l, w) ∷ []) old new
two_fields k l v w old mid new a b = (mid, a, (new, b, refl))

pub more_fields : (fs gs : List (List ℕ × Data)) (old mid new : Log) → SendsFields fs old mid → SendsFields gs mid new → SendsFields (fs ++ gs) old new
more_fields [] gs old mid new a b = subst (λ l. SendsFields gs l new) a b
more_fields (f ∷ fs) gs old mid new a b = (a.0, a.1, more_fields fs gs a.0 mid new a.2 b)

-- ---- an object has no float where no field has one

abbrev pub AreWhole : List (List ℕ × Data) → Type 0
AreWhole [] = Unit {0}
AreWhole (f ∷ fs) = (has_float f.1 ≡ false) × AreWhole fs

either_false : (a b : Bool) → a ≡ false → b ≡ false → (a || b) ≡ false
either_false a b h k = rw h k

whole_in_turn : (fs : List (List ℕ × Data)) → AreWhole fs → members_have_float (in_turn fs) ≡ false
whole_in_turn [] h = refl
whole_in_turn (f ∷ fs) h = either_false (has_float f.1) (members_have_float (in_turn fs)) h.0 (whole_in_turn fs h.1)

pub object_whole : (fs : List (List ℕ × Data)) → IsSorted fs → AreWhole fs → has_float (object_of fs) ≡ false
object_whole fs sorted h = ap members_have_float (members_in_turn fs sorted) ∙ whole_in_turn fs h

pub counts_whole : (ns : List ℕ) → has_float (list_of count ns) ≡ false
counts_whole [] = refl
counts_whole (n ∷ ns) = counts_whole ns
