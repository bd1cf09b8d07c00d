-- Rows that pass the computed test keep the row rules.
use Rattle.std.proofs.Common.{◌≡◌, ℕ, zero, suc, ◌+◌, ◌-◌, ◌<◌, ◌≤◌, Bool, true, false, not, ◌&&◌, ◌||◌, eqb, leb, ◌⊎◌, List, [], ◌∷◌, length, get_or, codes, refl, subst, inl, inr, add-zero, zero-add, arith}
use Rattle.std.proofs.lemmas.Slice.Eq.{bytes_eq-Decides}
use Rattle.std.proofs.lemmas.Bool.{and_parts, leb-true, eqb-true, eq-eqb, not-true}
use Rattle.std.specs.Str.{bytes_eq}
use Rattle.syntax.specs.Bytes.{capital}
use Rattle.message.specs.declared.row.Kind.{Kind}
use Rattle.message.specs.declared.row.Kind.TheVariants.{Trigger, Plain}
use Rattle.message.specs.declared.row.Need.{Need}
use Rattle.message.specs.declared.row.Need.TheVariants.{Optional, Required}
use Rattle.message.specs.declared.row.Row.{Row}
use Rattle.message.specs.Layouts.{all}
use Rattle.message.specs.Rows.{row_at, IsTag, Service, RowRule, RowRules}
use Rattle.message.specs.RowTests.{is_plain, is_required, implies, tag_test, rises_test, row_test, each_row, service_test, rows_test}

plain_is : (k : Kind) → is_plain k ≡ true → k ≡ Plain
plain_is Trigger h = cc
plain_is Plain h = refl

trigger_is : (k : Kind) → not (is_plain k) ≡ true → k ≡ Trigger
trigger_is Trigger h = refl
trigger_is Plain h = cc

required_is : (n : Need) → is_required n ≡ true → n ≡ Required
required_is Optional h = cc
required_is Required h = refl

optional_is : (n : Need) → not (is_required n) ≡ true → n ≡ Optional
optional_is Optional h = refl
optional_is Required h = cc

implied : (b c : Bool) → implies b c ≡ true → b ≡ true → c ≡ true
implied true c h e = h
implied false c h e = cc

same_true : (xs ys : List ℕ) → xs ≡ ys → bytes_eq xs ys ≡ true
same_true xs ys e = (bytes_eq-Decides xs ys).1 e

same_is : (xs ys : List ℕ) → bytes_eq xs ys ≡ true → xs ≡ ys
same_is xs ys e = (bytes_eq-Decides xs ys).0 e

capital_bounds : (b : ℕ) → capital b ≡ true → (65 ≤ b) × (b ≤ 90)
capital_bounds b h = let a = and_parts (leb 65 b) (leb b 90) h in (leb-true 65 b a.0, leb-true b 90 a.1)

all-at : (tag : List ℕ) → all capital tag ≡ true → (i : ℕ) → i < length tag → (65 ≤ get_or tag i 0) × (get_or tag i 0 ≤ 90)
all-at [] h i l = absurd (omega arith)
all-at (b ∷ bs) h zero l = capital_bounds b (and_parts (capital b) (all capital bs) h).0
all-at (b ∷ bs) h (suc i) l = all-at bs (and_parts (capital b) (all capital bs) h).1 i (omega arith)

tag_is : (tag : List ℕ) → tag_test tag ≡ true → IsTag tag
tag_is tag h =
    let a = and_parts (eqb (length tag) 3) (all capital tag) h in
    let three = eqb-true (length tag) 3 a.0 in
    record { three = three; letters = λ i l. all-at tag a.1 i (omega (arith, three)) }

-- the rows behind row i
abbrev rows_behind : List Row → ℕ → List Row
rows_behind [] i = []
rows_behind (r ∷ rs) zero = rs
rows_behind (r ∷ rs) (suc i) = rows_behind rs i

each_at : (n j : ℕ) (rows : List Row) → each_row n j rows ≡ true → (i : ℕ) → i < length rows → row_test n (j + i) (row_at rows i) (rows_behind rows i) ≡ true
each_at n j [] h i l = absurd (omega arith)
each_at n j (r ∷ rs) h zero l = rw add-zero (and_parts (row_test n j r rs) (each_row n (j + 1) rs) h).0
each_at n j (r ∷ rs) h (suc i) l =
    let again = each_at n (j + 1) rs (and_parts (row_test n j r rs) (each_row n (j + 1) rs) h).1 i (omega arith) in
    let e : j + 1 + i ≡ j + suc i = omega arith in
    subst (λ k. row_test n k (row_at rs i) (rows_behind rs i) ≡ true) e again

-- what a rise says of the next row
next_rise : (rows : List Row) (i : ℕ) → rises_test (row_at rows i) (rows_behind rows i) ≡ true → suc i < length rows →
    ((row_at rows (suc i)).level ≤ (row_at rows i).level) ⊎ (((row_at rows (suc i)).level ≡ suc (row_at rows i).level) × ((row_at rows (suc i)).kind ≡ Trigger))
next_rise [] i h l = absurd (omega arith)
next_rise (r ∷ []) zero h l = absurd (omega arith)
next_rise (r ∷ s ∷ ss) zero h l =
    (elim (leb s.level r.level) as (λ t. leb s.level r.level ≡ t → (t || (eqb s.level (suc r.level) && not (is_plain s.kind))) ≡ true →
    (s.level ≤ r.level) ⊎ ((s.level ≡ suc r.level) × (s.kind ≡ Trigger))) [
      | true ↦ λ e _. inl (leb-true s.level r.level e)
      | false ↦ λ _ g. let a = and_parts (eqb s.level (suc r.level)) (not (is_plain s.kind)) g in inr (eqb-true s.level (suc r.level) a.0, trigger_is s.kind a.1)
    ]) refl h
next_rise (r ∷ rs) (suc i) h l = next_rise rs i h (omega arith)

service_is : (rows : List Row) (j : ℕ) (tag : List ℕ) → service_test tag (row_at rows j) ≡ true → Service rows j tag
service_is rows j tag h =
    let r : Row = row_at rows j in
    let a = and_parts (bytes_eq r.tag tag) (is_plain r.kind && (eqb r.level 0 && (is_required r.need && eqb r.limit 1))) h in
    let b = and_parts (is_plain r.kind) (eqb r.level 0 && (is_required r.need && eqb r.limit 1)) a.1 in
    let c = and_parts (eqb r.level 0) (is_required r.need && eqb r.limit 1) b.1 in
    let d = and_parts (is_required r.need) (eqb r.limit 1) c.1 in
    record { tagged = same_is r.tag tag a.0; plain = plain_is r.kind b.0; flat = eqb-true r.level 0 c.0; required = required_is r.need d.0; once = eqb-true r.limit 1 d.1 }

rule_is : (rows : List Row) (j : ℕ) → row_test (length rows) j (row_at rows j) (rows_behind rows j) ≡ true → RowRule rows j
rule_is rows j h =
    let r : Row = row_at rows j in
    let rs : List Row = rows_behind rows j in
    let unh : Bool = implies (bytes_eq r.tag (codes "UNH")) (eqb j 0) in
    let unt : Bool = implies (bytes_eq r.tag (codes "UNT")) (eqb j (length rows - 1)) in
    let una : Bool = not (bytes_eq r.tag (codes "UNA")) in
    let flat : Bool = implies (eqb r.level 0) (is_plain r.kind) in
    let never : Bool = implies (eqb r.limit 0) (not (is_required r.need)) in
    let a = and_parts (tag_test r.tag && (unh && (unt && una))) ((leb r.level 7 && flat) && (rises_test r rs && (leb r.limit 9999999 && never))) h in
    let b = and_parts (tag_test r.tag) (unh && (unt && una)) a.0 in
    let c = and_parts unh (unt && una) b.1 in
    let d = and_parts unt una c.1 in
    let e = and_parts (leb r.level 7 && flat) (rises_test r rs && (leb r.limit 9999999 && never)) a.1 in
    let f = and_parts (leb r.level 7) flat e.0 in
    let g = and_parts (rises_test r rs) (leb r.limit 9999999 && never) e.1 in
    let k = and_parts (leb r.limit 9999999) never g.1 in
    record {
      tagged = tag_is r.tag b.0;
      header = λ t. eqb-true j 0 (implied (bytes_eq r.tag (codes "UNH")) (eqb j 0) c.0 (same_true r.tag (codes "UNH") t));
      trailer = λ t. eqb-true j (length rows - 1) (implied (bytes_eq r.tag (codes "UNT")) (eqb j (length rows - 1)) d.0 (same_true r.tag (codes "UNT") t));
      other = λ t. let no : bytes_eq r.tag (codes "UNA") ≡ false = not-true (bytes_eq r.tag (codes "UNA")) d.1 in let yet = same_true r.tag (codes "UNA") t in cc;
      deep = leb-true r.level 7 f.0;
      flat = λ t. plain_is r.kind (implied (eqb r.level 0) (is_plain r.kind) f.1 (eq-eqb r.level 0 t));
      rises = next_rise rows j g.0;
      limited = leb-true r.limit 9999999 k.0;
      never = λ t. optional_is r.need (implied (eqb r.limit 0) (not (is_required r.need)) k.1 (eq-eqb r.limit 0 t));
    }

pub rows_keep_rules : (rows : List Row) → rows_test rows ≡ true → RowRules rows
rows_keep_rules rows h =
    let last : Bool = service_test (codes "UNT") (row_at rows (length rows - 1)) in
    let a = and_parts (leb 2 (length rows) && leb (length rows) 512) (service_test (codes "UNH") (row_at rows 0) && (last && each_row (length rows) 0 rows)) h in
    let b = and_parts (leb 2 (length rows)) (leb (length rows) 512) a.0 in
    let c = and_parts (service_test (codes "UNH") (row_at rows 0)) (last && each_row (length rows) 0 rows) a.1 in
    let d = and_parts last (each_row (length rows) 0 rows) c.1 in
    record {
      many = leb-true 2 (length rows) b.0;
      few = leb-true (length rows) 512 b.1;
      header = service_is rows 0 (codes "UNH") c.0;
      trailer = service_is rows (length rows - 1) (codes "UNT") d.0;
      each = λ j l. rule_is rows j (subst (λ k. row_test (length rows) k (row_at rows j) (rows_behind rows j) ≡ true) (zero-add j) (each_at (length rows) 0 rows d.1 j l));
    }
