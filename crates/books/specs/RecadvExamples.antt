-- The example segments that the guideline prints for each row of RECADV, and that they fit.
use Rattle.std.specs.Prelude.{ℕ, Bool, false, not, ◌&&◌, List, [], ◌∷◌, is_some, codes}
use Prim.Native.String.{String}
use Rattle.std.specs.Str.{bytes_eq}
use Rattle.syntax.specs.declared.marks.DecimalMark.TheVariants.{Point}
use Rattle.edifact.specs.Cutting.{Cut, cut}
use Rattle.message.specs.Layouts.{all}
use Rattle.message.specs.Rows.{row_at}
use Rattle.message.specs.Messages.{Meaning, segment_of, segment_fault}
use Rattle.books.specs.Recadv.{recadv_rows, recadv_layouts, recadv_identifier}

-- what RECADV means
abbrev pub recadv : Meaning
recadv = record { rows = recadv_rows; layouts = recadv_layouts; identifier = recadv_identifier }

pub record Example : Type 0 where
  pub row : ℕ
  pub text : String

abbrev pub example : ℕ → String → Example
example row text = record { row = row; text = text }

abbrev pub recadv_examples : List Example
recadv_examples =
    example 0 "UNH+ME000001+RECADV:D:01B:UN:EAN005'"
    ∷ example 1 "BGM+632+REC5488+9'"
    ∷ example 2 "DTM+137:20021111:102'"
    ∷ example 2 "DTM+50:200211051640:203'"
    ∷ example 3 "FTX+AAI+1+001::91'"
    ∷ example 4 "RFF+AAK:533662'"
    ∷ example 5 "DTM+171:20021025:102'"
    ∷ example 6 "NAD+BY+5412345000013::9'"
    ∷ example 6 "NAD+SU+5412345000020::9'"
    ∷ example 7 "RFF+VA:AF48776'"
    ∷ example 8 "CTA+GR+:C SANCHEZ'"
    ∷ example 9 "COM+00445885521:TE'"
    ∷ example 10 "TDT+20++30+31'"
    ∷ example 11 "EQD+TE+93219::87'"
    ∷ example 12 "SEL+2167+CU'"
    ∷ example 13 "CDI+1+4'"
    ∷ example 14 "CPS+1'"
    ∷ example 15 "PAC+10++201::9'"
    ∷ example 16 "QVR+-40:124++BN::9'"
    ∷ example 17 "PCI+17+CONTAINER ABN54421'"
    ∷ example 18 "GIN+BJ+354123450000000014'"
    ∷ example 19 "LIN+1++5412345123453:SRV'"
    ∷ example 20 "PIA+1+AB5124:IN'"
    ∷ example 20 "PIA+5+2209953C001L:AC'"
    ∷ example 21 "QTY+194:150'"
    ∷ example 22 "QVR+40:195+AC'"
    ∷ example 23 "DTM+200:20021115:102'"
    ∷ example 24 "RFF+AAC:63321'"
    ∷ example 25 "DTM+171:20021115:102'"
    ∷ example 26 "PCI+17'"
    ∷ example 27 "QTY+194:45'"
    ∷ example 28 "QVR+40:195+AC'"
    ∷ example 29 "GIN+BJ+354123450000000014'"
    ∷ example 30 "CNT+2:120'"
    ∷ example 31 "UNT+34+ME000001'"
    ∷ []

-- one segment, of the row's tag, that fits its row; the trailer counts 34 segments and repeats the header's reference
abbrev pub fits_as : ℕ → List Cut → Bool
fits_as row [] = false
fits_as row (s ∷ t ∷ ss) = false
fits_as row (s ∷ []) = bytes_eq s.tag (row_at recadv_rows row).tag && not (is_some (segment_fault recadv Point (codes "ME000001") 34 row (segment_of s)))

abbrev pub example_fits : Example → Bool
example_fits e = not (is_some (cut (codes e.text)).fault) && fits_as e.row (cut (codes e.text)).segments

abbrev pub examples_fit : Bool
examples_fit = all example_fits recadv_examples
