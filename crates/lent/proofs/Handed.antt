-- A list of plain records that is handed on by whoever has all of it: given up for good, or lent as `&` for a call and had again.
--     last_list S κ r ys      what is had of the `&κ mut [S]` r that was given up: ys is its last list, and its borrow is closed
--     lends_list              the list is lent as a `&[S]` for the lifetime α, whose token is shown and stays
-- Assumes `Logic`.
use Prim.Native.Nat.{ℕ}
use mathlib.Core.List.{List, [], ◌∷◌}
use lib.ListN.{length}
use seplogic.Ra.Ura.{Ura}
use base.Fraction.{full_share}
use mir.Syntax.{named}
use base.Logic.{ent, sep}
use base.Fml.{Fml, Lft, fsep, fbor}
use types.Logic.{Logic, sem}
use types.Share.{arr_parts}
use denote.Lend.{Held, LentShrs, lends_shr_slice}
use denote.Memory.{shares}
use denote.Ref.{MutBor}
use denote.Slice.{Room, finally}
use Rattle.lent.proofs.Plain.{Cell, row}

abbrev pub last_list : (S : Cell) → Lft → MutBor (List S.Den) → List S.Den → Fml
last_list S κ r ys = fsep (finally (row S) r.ghost_name ys) (fbor κ (Held (row S) (length r.now) r.ref_ptr.0 r.ref_ptr.1 r.ghost_name))

module _ {M : Type 1} {𝓤 : Ura M} (𝓛 : Logic 𝓤) (S : Cell) (α : ℕ) (ys : List S.Den) (b o : ℕ) where
  open 𝓛 use {H, A}

  pub lends_list : Room (row S) (length ys)
      → ent 𝓤 (sep 𝓤 (sem 𝓛 ((arr_parts (shares (row S)) (length ys)).part full_share ys b o)) (A.lft (α ∷ []) full_share)) (H.⇛ (sep 𝓤 (LentShrs 𝓛 (row S) (named 0) (α ∷ []) full_share ys b o) (A.lft (α ∷ []) full_share)))
  lends_list room = lends_shr_slice 𝓛 (row S) (named 0) (α ∷ []) full_share ys b o room (α ∷ []) ((S.copied 𝓛).shares full_share (α ∷ [])) ((α ∷ [], full_share) ∷ []) (λ x m. m) (λ x m. m)
