-- A plain record lent by `&mut` to a thin wrapper over a by-value function, proved once:
--     pub fn w(f: &mut T, n: N) -> R    ensures  Gives1 r (the record at exit) (o f n)
--     { let m = g(*f, n); *f = m.flow; m.answer }
-- where `g(f: T, n: N) -> M` ensures `r ≡ F f n`, M is a struct of an R, field 0, and a T, field 1 (`Plain.antt`), and F's two parts are those of the outcome o.
--     lent     the MIR of w meets its contract, where the table's entry for g meets g's
-- Assumes `Logic`.
use mathlib.Core.Path.{refl}
use Prim.Native.Nat.{ℕ}
use mathlib.Core.List.{List, [], ◌∷◌}
use seplogic.Ra.Ura.{Ura}
use base.Fraction.{full_share}
use mir.Syntax.{Callee, Ty, Fn, named, mut, ty_ref, deref, field, place, copy, local, value_local, seq, assign, call, return, rv_opd}
use mir.Val.{Val, vptr}
use base.Logic.{SProp, ent, sep, emp, via, fst∗}
use base.Fml.{GName, Lft, Share, ftrue, flft, fobs, fbor}
use prog.Wp.{Calls, Loops, WpFn, Tables}
use types.Logic.{Logic}
use contract.Monad.{fact}
use types.Kit.{‵, ◌⊛◌, ◌$◌, ◌∵◌, !, qed, by, move, keep, drop, split, join, fsplit, fsplit3, fjoin, fjoin3, feq_i, suffices, frame, done}
use types.Run.{look, look_raw, store_raw, init, forget, stop, hop, fld, from, load, of_opd, and_then, no_more, assigns, land, returns, enter, alloc1, alloc0, params1, pass1, pass0, free1, free0}
use types.Part.{whole, sub, look_in}
use types.SemTy.{Body}
use sound.WpLaws.{FmC, fm_of, WpFn-mono}
use denote.Exit.{yes}
use denote.RattleType.{owns}
use denote.Laws.{Is, shows}
use denote.Memory.{mem, pointee}
use denote.Ref.{MutBor, MutRef, mut_vals, mut_Tells}
use denote.Signature.{Signature, mut_ref_to}
use denote.Steps.{opens, closes, owned, peeks, nothing}
use denote.Struct.Steps.{spelt}
use denote.Triple.Entry.{on_entry}
use denote.Triple.Spec.{Meets}
use denote.Triple.Statement.{Triple}
use denote.Triple.Clauses.{Clauses, Ended, closing}
use denote.Triple.Walked.{says, Stays, stay_ref, stay_none, walk_of, Goes-none, Goes-ref, ends_at, walked, walk_Meets}
use Rattle.numbers.specs.Promise.{Left1, Gives1}
use Rattle.lent.proofs.Plain.{Cell, row, slot, Ok, Moved, moved, By2, calls2}

module _ (T N R : Cell) (Mv : Moved R T) (F : T.Den → N.Den → Mv.Den) (o : T.Den → N.Den → Left1 R.Den T.Den) (is : (h : T.Den) (n : N.Den) → Gives1 (Mv.ans (F h n)) (Mv.flow (F h n)) (o h n)) where
  abbrev ty_m : Ty
  ty_m = (moved Mv).ty

  abbrev signature : Signature
  signature = record { lifetimes = 1; outlives = []; params = mut_ref_to (0 ∷ []) tt (slot T) ∷ slot N ∷ []; result = slot R }

  abbrev ended : Ended
  ended = record { signature = signature; kept = (yes, (yes, tt)) }

  abbrev clauses : {M : Type 1} (𝓤 : Ura M) → Clauses 𝓤 ended
  clauses 𝓤 κs a = record { ghost = Unit {0}; requires = λ _. emp 𝓤; ensures = λ _ r e. fact 𝓤 (Gives1 r e.0.now (o a.0.now a.1.0)) }

  -- the MIR of w: the result, f, n, m, and the copy of `*f`
  abbrev wrapper : Callee → Fn
  wrapper g = record {
    lifetimes = 1;
    outlives = [];
    ty_params = [];
    givens = 0;
    params = 2;
    locals = local R.ty value_local ∷ local (ty_ref (named 0) mut (pointee T.written)) value_local ∷ local N.ty value_local ∷ local ty_m value_local ∷ local T.ty value_local ∷ [];
    body = seq (assign (place 4 []) (rv_opd (copy (place 1 (deref T.ty ∷ [])))))
        (seq (call g (copy (place 4 []) ∷ copy (place 2 []) ∷ []) (place 3 []))
        (seq (assign (place 1 (deref T.ty ∷ [])) (rv_opd (copy (place 3 (field 1 ∷ [])))))
        (seq (assign (place 0 []) (rv_opd (copy (place 3 (field 0 ∷ []))))) return)));
  }

  abbrev stayed : Stays ended.signature.params ended.kept
  stayed = (stay_ref (0 ∷ []) tt (slot T), (stay_none (λ _. row N) yes, tt))

  module _ {M : Type 1} {𝓤 : Ura M} (𝓛 : Logic 𝓤) where
    open 𝓛 use {H, A}

    module _ (h : T.Den) (n : N.Den) (is-n : Ok N n) where
      abbrev ref : ℕ → ℕ → GName → T.Den → MutBor T.Den
      ref b off γ z = record { ref_ptr = (b, off); ghost_name = γ; now = z }

      abbrev m : Mv.Den
      m = F h n

      -- ---- w
      module _ (κ : Lft) (q : Share) (b off : ℕ) (γ : GName) where
        abbrev x : MutBor T.Den × (N.Den × Unit {0})
        x = (ref b off γ h, (n, tt))

        abbrev at : List Val × (List Val × Unit {0})
        at = (vptr b off ∷ [], (N.val n ∷ [], tt))

        abbrev Post : Val → SProp 𝓤
        Post = (walk_of 𝓛 ended stayed (clauses 𝓤)).post (((κ, tt), (q, tt), tt, x, at), tt)

        exits : Ok R (Mv.ans m) → ent 𝓤 (sep 𝓤 (A.obs γ (T.coded.code (Mv.flow m))) (sep 𝓤 (A.bor κ (Body (mem (row T)) b off γ)) (A.lft κ q))) (Post (R.val (Mv.ans m)))
        exits ok =
            qed 𝓛 (‵ (fobs γ (T.coded.code (Mv.flow m))) ∷ ‵ (fbor κ (Body (mem (row T)) b off γ)) ∷ ‵ (flft κ q) ∷ []) ∵
            suffices ! _ (ends_at 𝓛 ended stayed (clauses 𝓤) (((κ, tt), (q, tt), tt, x, at), tt) (R.val (Mv.ans m)) (Mv.ans m) (Mv.flow m, (tt, tt)) (tt, (tt, tt))) $
            says ! (is h n) $ nothing ! $ move ! (3 ∷ 0 ∷ []) $ join ! $
            frame ! $ feq_i ! (List Val) (vptr b off ∷ []) (vptr b off ∷ []) refl $ fjoin3 ! $ nothing ! $ owned ! (row N) (Is (row N)) (N.makes 𝓛) n _ is-n $ fjoin ! $ move ! (1 ∷ 0 ∷ []) $ fjoin ! $
            owned ! (row R) (Is (row R)) (R.makes 𝓛) (Mv.ans m) _ ok $ move ! (1 ∷ 0 ∷ []) $ done !

        module _ (g : Callee) (C : Calls 𝓤 H) (Λ : Loops 𝓤 H) (fm : FmC 𝓤 H 𝓛.laws C) (known : Triple 𝓤 (C g) (By2 𝓤 𝓛 T N (moved Mv) F)) where
          walk : ent 𝓤 (on_entry 𝓛 signature (κ, tt) (q, tt) x at) (WpFn 𝓤 H C Λ (wrapper g) (vptr b off ∷ N.val n ∷ []) Post)
          walk =
              qed 𝓛 ((‵ (flft κ q) ⊛ ‵ ftrue) ∷ ‵ (owns (MutRef (named 0) κ (row T) ∷ row N ∷ []) x at) ∷ []) ∵ split ! $ move ! (2 ∷ []) $ fsplit ! $ fsplit3 ! $ drop ! $ move ! (0 ∷ 1 ∷ 3 ∷ []) $
              -- [obs; the borrow; the token; what n owns; true]
              enter ! C Λ (wrapper g) (vptr b off ∷ N.val n ∷ []) _ $
              alloc1 ! (λ l₀. alloc1 ! (λ l₁. alloc1 ! (λ l₂. alloc1 ! (λ l₃. alloc1 ! (λ l₄. alloc0 ! $ params1 ! $ pass1 ! (init ! 6 refl (tt, tt)) $ pass1 ! (init ! 4 refl (N.typed 𝓛 n _ is-n).0) $ pass0 ! $
              move ! (10 ∷ 11 ∷ 12 ∷ []) $ opens ! tt (row T) {h = h} b off (λ vs. spelt ! (row T) (Is (row T)) (shows 𝓛 (row T)) (λ y. T.val y ∷ []) T.tells full_share h vs b off $
              move ! (1 ∷ []) $ peeks ! (row T) (Is (row T)) (shows 𝓛 (row T)) h (T.val h ∷ []) (λ was. drop ! $
              -- [the record's cell; the open borrow; obs; auth; _4; …; _3; …; _2; …; _1; …; room for _0; …]
              assigns ! (of_opd ! (load ! (from ! (hop ! (look ! 10 refl) (stop !))) (look_raw ! 0 refl))) (from ! (stop !)) (init ! 4 refl (T.typed 𝓛 h _ was).0) $
              calls2 ! fm T N (moved Mv) F known h n was is-n (and_then ! (load ! (from ! (stop !)) (look ! 5 refl)) (and_then ! (load ! (from ! (stop !)) (look ! 9 refl)) (no_more !))) (λ is.
              land ! (from ! (stop !)) (init ! 6 refl (Mv.typed 𝓛 m _ is).0) $
              assigns ! (of_opd ! (load ! (from ! (fld ! refl (stop !))) (look_in ! 6 (sub ! 1 refl (whole !))))) (from ! (hop ! (look ! 10 refl) (stop !))) (store_raw ! 0 refl (T.typed 𝓛 (Mv.flow m) _ (Mv.apart m _ is).1).0) $
              assigns ! (of_opd ! (load ! (from ! (fld ! refl (stop !))) (look_in ! 6 (sub ! 0 refl (whole !))))) (from ! (stop !)) (init ! 12 refl (R.typed 𝓛 (Mv.ans m) _ (Mv.apart m _ is).0).0) $
              owned ! (row T) (Is (row T)) (T.makes 𝓛) (Mv.flow m) _ (Mv.apart m _ is).1 $ move ! (1 ∷ 0 ∷ []) $ closes ! tt (row T) (Mv.flow m) (T.val (Mv.flow m) ∷ []) b off $
              -- [obs; the borrow; the token; _4; …; _3; …; _2; …; _1; …; _0; …]
              returns ! (look ! 11 refl) $ forget ! 3 refl $ forget ! 5 refl $ forget ! 7 refl $ forget ! 9 refl $ forget ! 11 refl $
              move ! (11 ∷ 12 ∷ []) $ free1 ! $ move ! (9 ∷ 10 ∷ []) $ free1 ! $ move ! (7 ∷ 8 ∷ []) $ free1 ! $ move ! (5 ∷ 6 ∷ []) $ free1 ! $ move ! (3 ∷ 4 ∷ []) $ free1 ! $ free0 ! $
              keep ! (0 ∷ 1 ∷ 2 ∷ []) $ by ! (exits (Mv.apart m _ is).0)))))))))

    pub lent : (g : Callee) (𝓣 : Tables 𝓤 H) → Triple 𝓤 (𝓣.C g) (By2 𝓤 𝓛 T N (moved Mv) F) → Meets 𝓛 signature (WpFn 𝓤 H 𝓣.C 𝓣.Λ (wrapper g)) (closing 𝓛 ended (clauses 𝓤))
    lent g 𝓣 known = walk_Meets 𝓛 ended stayed (Goes-ref 𝓛 1 0 tt (slot T), (Goes-none 𝓛 1 (λ _. row N) yes (λ κs x f. refl), tt)) (clauses 𝓤)
        (WpFn 𝓤 H 𝓣.C 𝓣.Λ (wrapper g)) (WpFn-mono 𝓤 H 𝓛.laws 𝓣 (wrapper g))
        (walked 𝓛 ended stayed (clauses 𝓤) (WpFn 𝓤 H 𝓣.C 𝓣.Λ (wrapper g)) (λ κs. (mut_vals, ((λ y. N.val y ∷ []), tt))) (λ κs. (mut_Tells (named 0) κs.0 (row T), (N.tells, tt)))
        (λ κs qs bounds a _ are. via 𝓤 _ (fst∗ 𝓤 _ (emp 𝓤)) (walk a.0.now a.1.0 are.1.0 κs.0 qs.0 a.0.ref_ptr.0 a.0.ref_ptr.1 a.0.ghost_name g 𝓣.C 𝓣.Λ (fm_of 𝓤 H 𝓛.laws 𝓣) known)))
