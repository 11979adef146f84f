-- Maps from names to images, and the lists of entries in memory that stand for them.
use Rattle.std.proofs.Common.{◌≡◌, ℕ, Bool, true, false, cond, List, [], ◌∷◌, map, Option, Some, None, sym, ap, ◌∙◌, refl}
use Rattle.std.specs.Prelude.{◌≢◌, option_map, String, Vec}
use Rattle.std.specs.Ordering.{nat_cmp, eq_by_cmp}
use Rattle.std.specs.Cmp.{eq_by_cmp_equiv, tied_itself, Equal-is}
use Rattle.std.specs.Cmp.Lexicographic.{slice_cmp, nat_list_cmp_total}
use Rattle.std.specs.FinMap.{get, insert, find, same_map, get-insert, get-from_entries, slice_cmp-IsAntisymmetric, nat_cmp-IsAntisymmetric}
use Rattle.std.specs.BTreeMap.{BTreeMap, get_by_text, Updates, is_at}
use Rattle.std.specs.Map.{lookup}
use Rattle.std.specs.Str.{bytes_eq}
use Rattle.std.specs.String.{string_bytes, string_cmp}
use Rattle.std.proofs.lemmas.Bool.{false_from_ne_true}
use Rattle.std.proofs.lemmas.Map.Text.{is_eq-slice_cmp, btree_map_updates_text}
use Rattle.byte_ports.specs.Images.{Named, HeldUnder, SetsName, OthersSame}
use Rattle.byte_ports.specs.Entries.{entry_of, named_of}

-- names of the same bytes are told to be the same
same_name : (name : List ℕ) → eq_by_cmp (slice_cmp nat_cmp) name name ≡ true
same_name name = (Equal-is (slice_cmp nat_cmp name name)).1 (tied_itself nat_list_cmp_total name)

-- names of other bytes are told apart
other_name : (other name : List ℕ) → other ≢ name → eq_by_cmp (slice_cmp nat_cmp) other name ≡ false
other_name other name apart = false_from_ne_true _ (λ t. apart (slice_cmp-IsAntisymmetric nat_cmp-IsAntisymmetric other name ((Equal-is (slice_cmp nat_cmp other name)).0 t)))

-- after a name was set it has its bytes, and every other name has what it had
pub setting : (old : Named) (new : Option Named) (name bytes : List ℕ) → SetsName (Some old) new name bytes → HeldUnder new name bytes × OthersSame (Some old) new name
setting old None name bytes s = absurd s
setting old (Some new) name bytes s = (
  ap (λ (m : Named). get m name) s ∙ get-insert nat_list_cmp_total old name bytes name ∙ ap (λ b. cond b (Some bytes) (get old name)) (same_name name),
  λ other apart. ap (λ (m : Named). get m other) s ∙ get-insert nat_list_cmp_total old name bytes other ∙ ap (λ b. cond b (Some bytes) (get old other)) (other_name other name apart),
)

-- what is made of the value that a test chooses
chosen : {B : Type 0} (b : Bool) (v : Vec ℕ B) (rest : Option (Vec ℕ B)) (after : Option (List ℕ)) → after ≡ option_map (λ x. x.items) rest → cond b (Some v.items) after ≡ option_map (λ x. x.items) (cond b (Some v) rest)
chosen true v rest after e = refl
chosen false v rest after e = e

-- a name is tested from either side
tested : (name q : List ℕ) → bytes_eq name q ≡ eq_by_cmp (slice_cmp nat_cmp) q name
tested name q = sym (is_eq-slice_cmp name q) ∙ (eq_by_cmp_equiv nat_list_cmp_total).symm name q

module _ {A B : Type 0} where
  -- a search among the entries as lists of bytes
  find_entry : (q : List ℕ) (es : List (String A × Vec ℕ B)) → find (slice_cmp nat_cmp) q (map entry_of es) ≡ option_map (λ x. x.items) (lookup (is_at (λ k. slice_cmp nat_cmp q (string_bytes k))) es)
  find_entry q [] = refl
  find_entry q (e ∷ es) = chosen (eq_by_cmp (slice_cmp nat_cmp) q (string_bytes e.0)) e.1 _ _ (find_entry q es)

  -- a look-up of a name
  pub get-named_of : (m : BTreeMap (String A) (Vec ℕ B)) (q : List ℕ) → get (named_of m.entries) q ≡ option_map (λ x. x.items) (get_by_text m q)
  get-named_of m q = get-from_entries nat_list_cmp_total (map entry_of m.entries) q ∙ find_entry q m.entries

  -- an entry that is put sets the name
  pub named_of-insert : (m n : BTreeMap (String A) (Vec ℕ B)) (k : String A) (v : Vec ℕ B) → Updates string_cmp m n k (Some v) → named_of n.entries ≡ insert (named_of m.entries) (string_bytes k) v.items
  named_of-insert m n k v h = same_map nat_list_cmp_total (slice_cmp-IsAntisymmetric nat_cmp-IsAntisymmetric) _ _ (λ q.
      get-named_of n q ∙ ap (option_map (λ x. x.items)) (btree_map_updates_text (string_bytes k) m n (Some v) h q)
      ∙ sym (chosen (bytes_eq (string_bytes k) q) v (get_by_text m q) (get (named_of m.entries) q) (get-named_of m q))
      ∙ ap (λ b. cond b (Some v.items) (get (named_of m.entries) q)) (tested (string_bytes k) q)
      ∙ sym (get-insert nat_list_cmp_total (named_of m.entries) (string_bytes k) v.items q))
