-- Plain types of one machine value, and calls of by-value functions over them, as rules for a walk by hand.
--     Cell             a plain type of one machine value, with its laws.        row     it as a row of the logic (`row_of` of its parts).        Ok x     what whoever holds an x knows of it
--     declared, enumerated, uint, sint, boolean    the Cell of a declared struct, of an enum, of an unsigned and of a signed integer, and of bool
--     array S n        the Cell of an array.        array_long   it has n elements.        lies_in, lies_out    the cell of a local is what lies there, and back
--     whole_shr, whole_shr_laws, whole_copied      what a `&` to a type holds that is handed on by value alone, and its laws
--     Moved R T        the struct of an R and a T.        moved    it as a cell.        field_val, field_ok, ok_field    an array of a declared struct as a field of another
--     By0, By1, By2    the contract of a by-value function of no, one or two parameters that ensures `r ≡ F ..`
--     calls0, calls1, calls2       the call of one: nothing is asked of the context, and once it has returned, its result is F of the arguments
-- Assumes `Logic`.
use mathlib.Core.Path.{◌≡◌, refl, sym, ap, subst, ◌∙◌}
use Prim.Native.Nat.{ℕ}
use mathlib.Core.List.{List, [], ◌∷◌, map, map-map}
use lib.ListN.{length, length-map}
use seplogic.Ra.Ura.{Ura}
use base.Fraction.{full_share}
use mir.Syntax.{Callee, Sym, Ty, Written, Width, Place, Opd as Operand, Body, ty_int, ty_bool, ty_array, ty_struct, tcons, tnil, seq, call}
use mir.Val.{Val, vint, vbool, vstruct, vcons, vnil, of_z}
use base.Logic.{ent, emp, sep, guard, snd∗, ex_e, id⊢}
use base.Stored.{Coded}
use base.Fml.{Fml, Lft, ftrue, fsep, fat}
use prog.Wp.{Env, Calls, Loops}
use types.Logic.{Logic, sem}
use contract.Monad.{fact}
use types.Kit.{Item, ‵, raw, ◌⊛◌, some, later, Post, lands, runs, Seq, ◌$◌, ◌∵◌, !, qed, by, move, drop, use0, use1, split, join, pick, check, rewrite, fsplit, fjoin, fpick, fpack, frame, await, done}
use types.Run.{Opds}
use sound.WpLaws.{FmC}
use denote.Copied.{Copied, whole-copied, Array-Copied, Copied-at, uint_Copied, sint_Copied, bool_Copied}
use denote.Exit.{unchanged, yes}
use denote.RattleType.{RattleType, RowLaws}
use denote.Shadow.{shadow}
use denote.Laws.{Typed, Is, shows}
use denote.Plain.{UInt, uint_row_laws, uint_Tells, uint_Lawful, uint_Makes, uint_copy, Boolean, bool-row_laws, bool_Tells, bool_Lawful, bool_Makes, bool-copy}
use denote.Signed.{SInt, sint_row_laws, sint_Tells, sint_Lawful, sint_Makes, sint_copy}
use denote.Memory.{raw_all, cell_at, part_at, part_of}
use denote.Sharing.{ShrLaws, one}
use denote.SharingLaws.{one_shr_laws}
use denote.Array.{Array, Array-row_laws, array_val, each, Array-Tells, Array-Lawful, Array-Makes, array_copy}
use denote.Signature.{Slot, plain}
use denote.Steps.{only, owned, peeks, heard, nothing}
use denote.Struct.Struct.{Struct, Struct-row_laws, Plains, layout}
use denote.Struct.Recorded.{Recorded-row_laws}
use denote.Struct.Declared as Decl
use denote.Struct.Declared.{Declared}
use denote.Struct.Laws as LL
use denote.Enum.Enum.{Enum, Enum-row_laws, Plainss, Few, layout as enum-layout}
use denote.Enum.Declared as EnumDecl
use denote.Enum.Laws as EL
use denote.Triple.Spec.{triple_of}
use denote.Triple.Statement.{Contract, Triple}
use denote.Triple.Call.{calls_at}
use denote.Triple.Clauses.{Clauses, Ended, closing, ensured, lasts}

-- a type of one machine value, from what it says, as a row of the logic. A value is seen at exit as it was passed
abbrev pub row_of : (D : Type 0) → Ty → Written → List (Written × List Ty) → Lft → (D → List Val → Fml) → Coded D → (D → ℕ → ℕ → Lft → Fml) → RattleType
row_of D τ w r l own c shr = record { Denot = D; mir = τ ∷ []; written = w; reaches = r; lives = l; own_val = own; exit = λ k. unchanged; coded = c; shr_at = shr }

-- a plain type of one machine value
pub record Cell : Type 2 where
  pub Den : Type 0
  pub ty : Ty
  pub written : Written
  pub reaches : List (Written × List Ty)
  pub lives : Lft
  pub own : Den → List Val → Fml
  pub coded : Coded Den
  pub shr_at : Den → ℕ → ℕ → Lft → Fml
  pub val : Den → Val
  pub tells : (x : Den) (vs : List Val) → shadow (own x vs) → vs ≡ val x ∷ []
  pub typed : {M : Type 1} {𝓤 : Ura M} (𝓛 : Logic 𝓤) → (x : Den) (vs : List Val) → shadow (own x vs) → Typed (ty ∷ []) vs
  pub makes : {M : Type 1} {𝓤 : Ura M} (𝓛 : Logic 𝓤) → (x : Den) (vs : List Val) → shadow (own x vs) → ent 𝓤 (emp 𝓤) (sem 𝓛 (own x vs))
  pub twice : {M : Type 1} {𝓤 : Ura M} (𝓛 : Logic 𝓤) → (x : Den) (vs : List Val) → ent 𝓤 (sem 𝓛 (own x vs)) (sep 𝓤 (sem 𝓛 (own x vs)) (sem 𝓛 (own x vs)))
  -- what a `&` to one holds is had twice, and the value is read through it
  pub shr_laws : RowLaws (row_of Den ty written reaches lives own coded shr_at)
  pub copied : {M : Type 1} {𝓤 : Ura M} (𝓛 : Logic 𝓤) → Copied 𝓛 (row_of Den ty written reaches lives own coded shr_at)

abbrev pub row : Cell → RattleType
row c = row_of c.Den c.ty c.written c.reaches c.lives c.own c.coded c.shr_at

abbrev pub slot : {n : ℕ} → Cell → Slot n
slot c = plain (λ _. row c)

-- what whoever holds x knows of it
abbrev pub Ok : (c : Cell) → c.Den → Type 0
Ok c x = shadow (c.own x (c.val x ∷ []))

-- a value that can be copied can be at a row that is seen at exit as it was passed
pub as_cell : {M : Type 1} {𝓤 : Ura M} (𝓛 : Logic 𝓤) (R : RattleType) → Copied 𝓛 R
    → Copied 𝓛 (record { Denot = R.Denot; mir = R.mir; written = R.written; reaches = R.reaches; lives = R.lives; own_val = R.own_val; exit = λ k. unchanged; coded = R.coded; shr_at = R.shr_at })
as_cell 𝓛 R c = Copied-at 𝓛 R R.mir R.written R.reaches R.lives (λ k. unchanged) refl c

-- what a `&` to a declared struct of such fields holds is had twice
pub declared_shr_laws : (T : Declared) → LL.Copyables T.parts → RowLaws (Decl.row T)
declared_shr_laws T cs = Recorded-row_laws (Struct (Decl.shape T)) T.D T.to T.to_one (Struct-row_laws (Decl.shape T) (LL.copy_row_laws T.parts cs))

abbrev pub declared : (T : Declared) (L : LL.Laws T) → Plains (Decl.fields T) → LL.Copyables T.parts → Cell
declared T L pl cs = record {
  Den = T.D;
  ty = layout (Decl.shape T);
  written = (Decl.row T).written;
  reaches = (Decl.row T).reaches;
  lives = (Decl.row T).lives;
  own = (Decl.row T).own_val;
  coded = (Decl.row T).coded;
  shr_at = (Decl.row T).shr_at;
  val = LL.val T L;
  tells = LL.tells T L;
  typed = λ 𝓛. (LL.lawful T L 𝓛).typed;
  makes = λ 𝓛. LL.makes T pl 𝓛;
  twice = λ 𝓛. (LL.copy T cs 𝓛).twice;
  shr_laws = declared_shr_laws T cs;
  copied = λ 𝓛. as_cell 𝓛 (Decl.row T) (LL.copied T cs 𝓛);
}

abbrev pub enumerated : (T : EnumDecl.Declared) (L : EL.Laws T) → Few (EnumDecl.shape T) → Plainss (EnumDecl.variants T) → EL.Copyabless T.parts → Cell
enumerated T L few pl cs = record {
  Den = T.D;
  ty = enum-layout (EnumDecl.shape T);
  written = (EnumDecl.row T).written;
  reaches = (EnumDecl.row T).reaches;
  lives = (EnumDecl.row T).lives;
  own = (EnumDecl.row T).own_val;
  coded = (EnumDecl.row T).coded;
  shr_at = (EnumDecl.row T).shr_at;
  val = EL.val T L;
  tells = EL.tells T L;
  typed = λ 𝓛. (EL.lawful T L 𝓛 few).typed;
  makes = λ 𝓛. EL.makes T pl 𝓛;
  twice = λ 𝓛. (EL.copy T cs 𝓛).twice;
  shr_laws = Recorded-row_laws (Enum (EnumDecl.shape T)) T.D T.to T.to_one (Enum-row_laws (EnumDecl.shape T) (EL.copy_row_lawss T.parts cs));
  copied = λ 𝓛. as_cell 𝓛 (EnumDecl.row T) (EL.copied T cs 𝓛);
}

abbrev pub uint : Width → Cell
uint w = record {
  Den = ℕ;
  ty = ty_int w;
  written = (UInt w).written;
  reaches = (UInt w).reaches;
  lives = (UInt w).lives;
  own = (UInt w).own_val;
  coded = (UInt w).coded;
  shr_at = (UInt w).shr_at;
  val = vint w;
  tells = uint_Tells w;
  typed = λ 𝓛. (uint_Lawful 𝓛 w).typed;
  makes = λ 𝓛. uint_Makes 𝓛 w;
  twice = λ 𝓛. (uint_copy 𝓛 w).twice;
  shr_laws = uint_row_laws w;
  copied = λ 𝓛. uint_Copied 𝓛 w;
}

abbrev pub sint : Width → Cell
sint w = record {
  Den = (SInt w).Denot;
  ty = ty_int w;
  written = (SInt w).written;
  reaches = (SInt w).reaches;
  lives = (SInt w).lives;
  own = (SInt w).own_val;
  coded = (SInt w).coded;
  shr_at = (SInt w).shr_at;
  val = λ z. vint w (of_z w z);
  tells = sint_Tells w;
  typed = λ 𝓛. (sint_Lawful 𝓛 w).typed;
  makes = λ 𝓛. sint_Makes 𝓛 w;
  twice = λ 𝓛. (sint_copy 𝓛 w).twice;
  shr_laws = sint_row_laws w;
  copied = λ 𝓛. sint_Copied 𝓛 w;
}

abbrev pub boolean : Cell
boolean = record {
  Den = Boolean.Denot;
  ty = ty_bool;
  written = Boolean.written;
  reaches = Boolean.reaches;
  lives = Boolean.lives;
  own = Boolean.own_val;
  coded = Boolean.coded;
  shr_at = Boolean.shr_at;
  val = vbool;
  tells = bool_Tells;
  typed = λ 𝓛. (bool_Lawful 𝓛).typed;
  makes = λ 𝓛. bool_Makes 𝓛;
  twice = λ 𝓛. (bool-copy 𝓛).twice;
  shr_laws = bool-row_laws;
  copied = λ 𝓛. bool_Copied 𝓛;
}

abbrev pub array : Cell → ℕ → Cell
array S n = record {
  Den = List S.Den;
  ty = ty_array S.ty n;
  written = (Array (row S) n).written;
  reaches = S.reaches;
  lives = S.lives;
  own = (Array (row S) n).own_val;
  coded = (Array (row S) n).coded;
  shr_at = (Array (row S) n).shr_at;
  val = λ xs. array_val (map S.val xs);
  tells = Array-Tells (row S) (λ x. S.val x ∷ []) S.tells n;
  typed = λ 𝓛. (Array-Lawful 𝓛 (row S) (record { typed = S.typed 𝓛 }) n).typed;
  makes = λ 𝓛. Array-Makes 𝓛 (row S) (S.makes 𝓛) n;
  twice = λ 𝓛. (array_copy 𝓛 (row S) (record { twice = S.twice 𝓛 }) n).twice;
  shr_laws = Array-row_laws (row S) S.shr_laws n;
  copied = λ 𝓛. as_cell 𝓛 (Array (row S) n) (Array-Copied 𝓛 (row S) (S.copied 𝓛) tt n);
}

pub array_long : (S : Cell) (n : ℕ) (xs : List S.Den) → Ok (array S n) xs → length xs ≡ n
array_long S n xs ok = ok.1.0.1

-- an array as a field of a declared struct, whose laws speak of the elements' tuples: it is the array of the elements, and back
module _ (T : Declared) (L : LL.Laws T) where
  abbrev tuple : RattleType
  tuple = (Decl.field T).row

  each_down : (xs : List T.D) (us : List Val) → shadow (each tuple.Denot tuple.own_val (map T.to xs) us) → shadow (each T.D (Decl.row T).own_val xs us)
  each_down [] [] s = s
  each_down [] (u ∷ us) s = s
  each_down (x ∷ xs) [] s = s
  each_down (x ∷ xs) (u ∷ us) s = (s.0, each_down xs us s.1)

  each_up : (xs : List T.D) (us : List Val) → shadow (each T.D (Decl.row T).own_val xs us) → shadow (each tuple.Denot tuple.own_val (map T.to xs) us)
  each_up [] [] s = s
  each_up [] (u ∷ us) s = s
  each_up (x ∷ xs) [] s = s
  each_up (x ∷ xs) (u ∷ us) s = (s.0, each_up xs us s.1)

  -- the machine value of the field
  pub field_val : (xs : List T.D) → array_val (map (LL.tuple_val T L) (map T.to xs)) ≡ array_val (map (LL.val T L) xs)
  field_val xs = ap array_val (map-map (LL.tuple_val T L) T.to xs)

  module _ (pl : Plains (Decl.fields T)) (cs : LL.Copyables T.parts) (n : ℕ) (xs : List T.D) where
    pub field_ok : shadow ((Array tuple n).own_val (map T.to xs) (array_val (map (LL.tuple_val T L) (map T.to xs)) ∷ [])) → Ok (array (declared T L pl cs) n) xs
    field_ok s = (s.0, ((ap (λ (v : Val). v ∷ []) (sym (field_val xs)) ∙ s.1.0.0, sym (length-map xs T.to) ∙ s.1.0.1), each_down xs s.0 s.1.1))

    pub ok_field : Ok (array (declared T L pl cs) n) xs → shadow ((Array tuple n).own_val (map T.to xs) (array_val (map (LL.tuple_val T L) (map T.to xs)) ∷ []))
    ok_field s = (s.0, ((ap (λ (v : Val). v ∷ []) (field_val xs) ∙ s.1.0.0, length-map xs T.to ∙ s.1.0.1), each_up xs s.0 s.1.1))

-- a type whose values are handed on by value alone: a `&` to one would hold the whole of it, with no part apart
module _ {D : Type 0} (τ : Ty) where
  abbrev pub whole_shr : (D → List Val → Fml) → D → ℕ → ℕ → Lft → Fml
  whole_shr own x b o = one (λ q. part_of (raw_all (τ ∷ [])) own q x b o)

  pub whole_shr_laws : (own : D → List Val → Fml) (x : D) (b o : ℕ) → ShrLaws (whole_shr own x b o)
  whole_shr_laws own x b o = one_shr_laws (λ q. part_of (raw_all (τ ∷ [])) own q x b o)

pub whole_copied : {M : Type 1} {𝓤 : Ura M} (𝓛 : Logic 𝓤) {D : Type 0} (τ : Ty) (w : Written) (r : List (Written × List Ty)) (own : D → List Val → Fml) (c : Coded D) (val : D → Val)
    → ((x : D) (vs : List Val) → shadow (own x vs) → vs ≡ val x ∷ []) → ((x : D) (vs : List Val) → ent 𝓤 (sem 𝓛 (own x vs)) (sep 𝓤 (sem 𝓛 (own x vs)) (sem 𝓛 (own x vs))))
    → Copied 𝓛 (row_of D τ w r [] own c (whole_shr τ own))
whole_copied 𝓛 {D} τ w r own c val tells twice = whole-copied 𝓛 (row_of D τ w r [] own c (whole_shr τ own)) (λ x b o. refl) val tells (record { twice = twice })

-- a struct of an R and a T
abbrev pub both : (R T : Cell) → R.Den → T.Den → Val
both R T r t = vstruct (vcons (R.val r) (vcons (T.val t) vnil))

pub record Moved (R T : Cell) : Type 2 where
  pub name : Sym
  pub Den : Type 0
  pub written : Written
  pub reaches : List (Written × List Ty)
  pub own : Den → List Val → Fml
  pub coded : Coded Den
  pub ans : Den → R.Den
  pub flow : Den → T.Den
  pub tells : (m : Den) (vs : List Val) → shadow (own m vs) → vs ≡ both R T (ans m) (flow m) ∷ []
  pub typed : {M : Type 1} {𝓤 : Ura M} (𝓛 : Logic 𝓤) → (m : Den) (vs : List Val) → shadow (own m vs) → Typed (ty_struct name (tcons R.ty (tcons T.ty tnil)) ∷ []) vs
  pub makes : {M : Type 1} {𝓤 : Ura M} (𝓛 : Logic 𝓤) → (m : Den) (vs : List Val) → shadow (own m vs) → ent 𝓤 (emp 𝓤) (sem 𝓛 (own m vs))
  pub twice : {M : Type 1} {𝓤 : Ura M} (𝓛 : Logic 𝓤) → (m : Den) (vs : List Val) → ent 𝓤 (sem 𝓛 (own m vs)) (sep 𝓤 (sem 𝓛 (own m vs)) (sem 𝓛 (own m vs)))
  pub apart : (m : Den) (vs : List Val) → shadow (own m vs) → Ok R (ans m) × Ok T (flow m)
  pub made : (m : Den) → Ok R (ans m) → Ok T (flow m) → shadow (own m (both R T (ans m) (flow m) ∷ []))

-- the same of a declared struct, whose first field is the R and whose second is the T
pub record Paired (R T : Cell) (D : Declared) (ans : D.D → R.Den) (flow : D.D → T.Den) : Type 2 where
  pub tells : (m : D.D) (vs : List Val) → shadow ((Decl.row D).own_val m vs) → vs ≡ both R T (ans m) (flow m) ∷ []
  pub typed : {M : Type 1} {𝓤 : Ura M} (𝓛 : Logic 𝓤) → (m : D.D) (vs : List Val) → shadow ((Decl.row D).own_val m vs) → Typed (ty_struct D.name (tcons R.ty (tcons T.ty tnil)) ∷ []) vs
  pub apart : (m : D.D) (vs : List Val) → shadow ((Decl.row D).own_val m vs) → Ok R (ans m) × Ok T (flow m)
  pub made : (m : D.D) → Ok R (ans m) → Ok T (flow m) → shadow ((Decl.row D).own_val m (both R T (ans m) (flow m) ∷ []))

abbrev pub pair_of : (R T : Cell) (D : Declared) → Plains (Decl.fields D) → LL.Copyables D.parts → (ans : D.D → R.Den) (flow : D.D → T.Den) → Paired R T D ans flow → Moved R T
pair_of R T D pl cs ans flow p = record {
  name = D.name;
  Den = D.D;
  written = (Decl.row D).written;
  reaches = (Decl.row D).reaches;
  own = (Decl.row D).own_val;
  coded = (Decl.row D).coded;
  ans = ans;
  flow = flow;
  tells = p.tells;
  typed = p.typed;
  makes = λ 𝓛. LL.makes D pl 𝓛;
  twice = λ 𝓛. (LL.copy D cs 𝓛).twice;
  apart = p.apart;
  made = p.made;
}

abbrev pub moved : {R T : Cell} → Moved R T → Cell
moved {R} {T} Mv = record {
  Den = Mv.Den;
  ty = ty_struct Mv.name (tcons R.ty (tcons T.ty tnil));
  written = Mv.written;
  reaches = Mv.reaches;
  lives = [];
  own = Mv.own;
  coded = Mv.coded;
  shr_at = whole_shr (ty_struct Mv.name (tcons R.ty (tcons T.ty tnil))) Mv.own;
  val = λ m. both R T (Mv.ans m) (Mv.flow m);
  tells = Mv.tells;
  typed = Mv.typed;
  makes = Mv.makes;
  twice = Mv.twice;
  shr_laws = whole_shr_laws (ty_struct Mv.name (tcons R.ty (tcons T.ty tnil))) Mv.own;
  copied = λ 𝓛. whole_copied 𝓛 (ty_struct Mv.name (tcons R.ty (tcons T.ty tnil))) Mv.written Mv.reaches Mv.own Mv.coded (λ m. both R T (Mv.ans m) (Mv.flow m)) Mv.tells (Mv.twice 𝓛);
}

-- a cell of a local is what lies there, and back
module _ {M : Type 1} {𝓤 : Ura M} (𝓛 : Logic 𝓤) (T : Cell) (h : T.Den) (b o : ℕ) where
  open 𝓛 use {H}

  pub lies_in : Ok T h → ent 𝓤 (H.at full_share T.ty b o (T.val h)) (sem 𝓛 (part_at (row T) full_share h b o))
  unfolding part_of
  lies_in ok =
      qed 𝓛 (‵ (fat full_share T.ty b o (T.val h)) ∷ []) ∵ use1 𝓛 (‵ (cell_at full_share (T.ty ∷ []) (T.val h ∷ []) b o)) (𝓛.laws.at_raw full_share T.ty b o (T.val h)) $
      owned ! (row T) (Is (row T)) (T.makes 𝓛) h _ ok $ move ! (1 ∷ 0 ∷ []) $ fjoin ! $ fpack ! (List Val) (λ vs. fsep (cell_at full_share (T.ty ∷ []) vs b o) (T.own h vs)) (T.val h ∷ []) $ done !

  pub lies_out : ent 𝓤 (sem 𝓛 (part_at (row T) full_share h b o)) (guard 𝓤 (Ok T h) (H.at full_share T.ty b o (T.val h)))
  unfolding part_of
  lies_out =
      qed 𝓛 (‵ (part_at (row T) full_share h b o) ∷ []) ∵ fpick ! (λ vs. fsplit ! $ move ! (1 ∷ []) $ peeks ! (row T) (Is (row T)) (shows 𝓛 (row T)) h vs (λ is. drop ! $
      rewrite ! 0 (λ (us : List Val). ‵ (cell_at full_share (T.ty ∷ []) us b o)) (T.tells h vs is) refl $
      check ! (subst (λ (us : List Val). shadow (T.own h us)) (T.tells h vs is) is) $ by ! (𝓛.laws.raw_at full_share T.ty b o (T.val h))))

-- ---- by-value functions: `g(..) -> Q` that ensures `r ≡ F ..`
abbrev pub of0 : Cell → Ended
of0 Q = record { signature = record { lifetimes = 0; outlives = []; params = []; result = slot Q }; kept = tt }

abbrev pub of1 : Cell → Cell → Ended
of1 P Q = record { signature = record { lifetimes = 0; outlives = []; params = slot P ∷ []; result = slot Q }; kept = (yes, tt) }

abbrev pub of2 : Cell → Cell → Cell → Ended
of2 P P' Q = record { signature = record { lifetimes = 0; outlives = []; params = slot P ∷ slot P' ∷ []; result = slot Q }; kept = (yes, (yes, tt)) }

module _ {M : Type 1} (𝓤 : Ura M) where
  abbrev pub says0 : (Q : Cell) → Q.Den → Clauses 𝓤 (of0 Q)
  says0 Q r₀ κs a = record { ghost = Unit {0}; requires = λ _. emp 𝓤; ensures = λ _ r e. fact 𝓤 (r ≡ r₀) }

  abbrev pub says1 : (P Q : Cell) → (P.Den → Q.Den) → Clauses 𝓤 (of1 P Q)
  says1 P Q F κs a = record { ghost = Unit {0}; requires = λ _. emp 𝓤; ensures = λ _ r e. fact 𝓤 (r ≡ F a.0) }

  abbrev pub says2 : (P P' Q : Cell) → (P.Den → P'.Den → Q.Den) → Clauses 𝓤 (of2 P P' Q)
  says2 P P' Q F κs a = record { ghost = Unit {0}; requires = λ _. emp 𝓤; ensures = λ _ r e. fact 𝓤 (r ≡ F a.0 a.1.0) }

  module _ (𝓛 : Logic 𝓤) where
    abbrev pub By0 : (Q : Cell) → Q.Den → Contract 𝓤
    By0 Q r₀ = triple_of 𝓛 (of0 Q).signature (closing 𝓛 (of0 Q) (says0 Q r₀))

    abbrev pub By1 : (P Q : Cell) → (P.Den → Q.Den) → Contract 𝓤
    By1 P Q F = triple_of 𝓛 (of1 P Q).signature (closing 𝓛 (of1 P Q) (says1 P Q F))

    abbrev pub By2 : (P P' Q : Cell) → (P.Den → P'.Den → Q.Den) → Contract 𝓤
    By2 P P' Q F = triple_of 𝓛 (of2 P P' Q).signature (closing 𝓛 (of2 P P' Q) (says2 P P' Q F))

    -- what each contract binds outside
    abbrev pub at0 : (Q : Cell) (r₀ : Q.Den) → (By0 Q r₀).Ghost
    at0 Q r₀ = ((tt, tt, tt, tt, tt), tt)

    abbrev pub at1 : (P Q : Cell) (F : P.Den → Q.Den) (x : P.Den) → (By1 P Q F).Ghost
    at1 P Q F x = ((tt, tt, tt, (x, tt), (P.val x ∷ [], tt)), tt)

    abbrev pub at2 : (P P' Q : Cell) (F : P.Den → P'.Den → Q.Den) (x : P.Den) (y : P'.Den) → (By2 P P' Q F).Ghost
    at2 P P' Q F x y = ((tt, tt, tt, (x, (y, tt)), (P.val x ∷ [], (P'.val y ∷ [], tt))), tt)

    module _ where
      in0 : (Q : Cell) (r₀ : Q.Den) → ent 𝓤 (emp 𝓤) ((By0 Q r₀).pre (at0 Q r₀))
      in0 Q r₀ = qed 𝓛 [] ∵ nothing ! $ nothing ! $ join ! $ frame ! $ done !

      in1 : (P Q : Cell) (F : P.Den → Q.Den) (x : P.Den) → Ok P x → ent 𝓤 (emp 𝓤) ((By1 P Q F).pre (at1 P Q F x))
      in1 P Q F x is = qed 𝓛 [] ∵ nothing ! $ owned ! (row P) (Is (row P)) (P.makes 𝓛) x _ is $ fjoin ! $ nothing ! $ join ! $ frame ! $ done !

      in2 : (P P' Q : Cell) (F : P.Den → P'.Den → Q.Den) (x : P.Den) (y : P'.Den) → Ok P x → Ok P' y → ent 𝓤 (emp 𝓤) ((By2 P P' Q F).pre (at2 P P' Q F x y))
      in2 P P' Q F x y is is' = qed 𝓛 [] ∵ nothing ! $ owned ! (row P') (Is (row P')) (P'.makes 𝓛) y _ is' $ fjoin ! $ owned ! (row P) (Is (row P)) (P.makes 𝓛) x _ is $ fjoin ! $ nothing ! $ join ! $ frame ! $ done !

module _ {M : Type 1} {𝓤 : Ura M} {𝓛 : Logic 𝓤} {K : Type 0} {Γ : List (Item 𝓤)} {E : Env 𝓤 𝓛.H} {C : Calls 𝓤 𝓛.H} {Λ : Loops 𝓤 𝓛.H} {q : Post 𝓤 𝓛.H} {d : Place} {rest : Body} where
  -- the result is written out
  open 𝓛 use {H}

  pub written_out : (Q : Cell) (r r₀ : Q.Den) (v : Val) → shadow (Q.own r (v ∷ [])) → r ≡ r₀ → (Ok Q r₀ → Seq K 𝓛 Γ (lands C Λ E d (Q.val r₀) rest q)) → Seq K 𝓛 Γ (lands C Λ E d v rest q)
  written_out Q r r₀ v is e k =
      subst (λ (u : Val). Seq K 𝓛 Γ (lands C Λ E d u rest q)) (sym (ap only (Q.tells r (v ∷ []) is) ∙ ap Q.val e))
      (k (subst (λ (z : Q.Den). shadow (Q.own z (Q.val z ∷ []))) e (subst (λ (vs : List Val). shadow (Q.own r vs)) (Q.tells r (v ∷ []) is) is)))

  module _ {g : Callee} {xs : List Operand} where
    pub calls0 : K → FmC 𝓤 H 𝓛.laws C → (Q : Cell) (r₀ : Q.Den) → Triple 𝓤 (C g) (By0 𝓤 𝓛 Q r₀) → Opds K 𝓛 (raw ((By0 𝓤 𝓛 Q r₀).pre (at0 𝓤 𝓛 Q r₀)) ∷ Γ) E xs []
        → (Ok Q r₀ → Seq K 𝓛 Γ (lands C Λ E d (Q.val r₀) rest q)) → Seq K 𝓛 Γ (runs C Λ E (seq (call g xs d) rest) q)
    calls0 t fm Q r₀ known os k =
        use0 𝓛 (raw ((By0 𝓤 𝓛 Q r₀).pre (at0 𝓤 𝓛 Q r₀))) (in0 𝓤 𝓛 Q r₀) $ calls_at t fm (By0 𝓤 𝓛 Q r₀) known (at0 𝓤 𝓛 Q r₀) os (λ v.
        use1 𝓛 (later (some (λ (r : Q.Den). (‵ ftrue ⊛ ‵ (Q.own r (v ∷ []))) ⊛ raw (ensured 𝓛 (of0 Q) (says0 𝓤 Q r₀) tt tt tt r)))) (id⊢ 𝓤 _) $ await t tt $ pick t (λ r.
        split t $ move t (1 ∷ []) $ use1 𝓛 (raw (fact 𝓤 (r ≡ r₀))) (ex_e 𝓤 _ (λ ws. snd∗ 𝓤 (sem 𝓛 (lasts (of0 Q) tt tt ws)) (fact 𝓤 (r ≡ r₀)))) $ heard t (r ≡ r₀) (λ e. split t $ drop t $
        peeks t (row Q) (Is (row Q)) (shows 𝓛 (row Q)) r (v ∷ []) (λ is. drop t $ written_out Q r r₀ v is e k))))

    pub calls1 : K → FmC 𝓤 H 𝓛.laws C → (P Q : Cell) (F : P.Den → Q.Den) → Triple 𝓤 (C g) (By1 𝓤 𝓛 P Q F) → (x : P.Den) → Ok P x
        → Opds K 𝓛 (raw ((By1 𝓤 𝓛 P Q F).pre (at1 𝓤 𝓛 P Q F x)) ∷ Γ) E xs (P.val x ∷ [])
        → (Ok Q (F x) → Seq K 𝓛 Γ (lands C Λ E d (Q.val (F x)) rest q)) → Seq K 𝓛 Γ (runs C Λ E (seq (call g xs d) rest) q)
    calls1 t fm P Q F known x is_x os k =
        use0 𝓛 (raw ((By1 𝓤 𝓛 P Q F).pre (at1 𝓤 𝓛 P Q F x))) (in1 𝓤 𝓛 P Q F x is_x) $ calls_at t fm (By1 𝓤 𝓛 P Q F) known (at1 𝓤 𝓛 P Q F x) os (λ v.
        use1 𝓛 (later (some (λ (r : Q.Den). (‵ ftrue ⊛ ‵ (Q.own r (v ∷ []))) ⊛ raw (ensured 𝓛 (of1 P Q) (says1 𝓤 P Q F) tt (x, tt) tt r)))) (id⊢ 𝓤 _) $ await t tt $ pick t (λ r.
        split t $ move t (1 ∷ []) $ use1 𝓛 (raw (fact 𝓤 (r ≡ F x))) (ex_e 𝓤 _ (λ ws. snd∗ 𝓤 (sem 𝓛 (lasts (of1 P Q) tt (x, tt) ws)) (fact 𝓤 (r ≡ F x)))) $ heard t (r ≡ F x) (λ e. split t $ drop t $
        peeks t (row Q) (Is (row Q)) (shows 𝓛 (row Q)) r (v ∷ []) (λ is. drop t $ written_out Q r (F x) v is e k))))

    pub calls2 : K → FmC 𝓤 H 𝓛.laws C → (P P' Q : Cell) (F : P.Den → P'.Den → Q.Den) → Triple 𝓤 (C g) (By2 𝓤 𝓛 P P' Q F) → (x : P.Den) (y : P'.Den) → Ok P x → Ok P' y
        → Opds K 𝓛 (raw ((By2 𝓤 𝓛 P P' Q F).pre (at2 𝓤 𝓛 P P' Q F x y)) ∷ Γ) E xs (P.val x ∷ P'.val y ∷ [])
        → (Ok Q (F x y) → Seq K 𝓛 Γ (lands C Λ E d (Q.val (F x y)) rest q)) → Seq K 𝓛 Γ (runs C Λ E (seq (call g xs d) rest) q)
    calls2 t fm P P' Q F known x y is_x is_y os k =
        use0 𝓛 (raw ((By2 𝓤 𝓛 P P' Q F).pre (at2 𝓤 𝓛 P P' Q F x y))) (in2 𝓤 𝓛 P P' Q F x y is_x is_y) $ calls_at t fm (By2 𝓤 𝓛 P P' Q F) known (at2 𝓤 𝓛 P P' Q F x y) os (λ v.
        use1 𝓛 (later (some (λ (r : Q.Den). (‵ ftrue ⊛ ‵ (Q.own r (v ∷ []))) ⊛ raw (ensured 𝓛 (of2 P P' Q) (says2 𝓤 P P' Q F) tt (x, (y, tt)) tt r)))) (id⊢ 𝓤 _) $ await t tt $ pick t (λ r.
        split t $ move t (1 ∷ []) $ use1 𝓛 (raw (fact 𝓤 (r ≡ F x y))) (ex_e 𝓤 _ (λ ws. snd∗ 𝓤 (sem 𝓛 (lasts (of2 P P' Q) tt (x, (y, tt)) ws)) (fact 𝓤 (r ≡ F x y)))) $ heard t (r ≡ F x y) (λ e. split t $ drop t $
        peeks t (row Q) (Is (row Q)) (shows 𝓛 (row Q)) r (v ∷ []) (λ is. drop t $ written_out Q r (F x y) v is e k))))
