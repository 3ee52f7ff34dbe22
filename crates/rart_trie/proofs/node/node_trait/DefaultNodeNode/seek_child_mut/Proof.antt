-- A node's loan of a child is its loan of its storage, and the storage's loan of the child (`lent_through`). The walk
-- makes the two calls. The second is generic in the child, whose lifetime in that call is the loan's own, so the token
-- of the loan is cut in two for it and joined after it.
use Prim.Native.Nat.{ℕ, ◌<◌, ◌^◌}
use mathlib.Core.List.{List, [], ◌∷◌}
use mathlib.Core.Path.{◌≡◌, refl, ◌∙◌}
use seplogic.Ra.Ura.{Ura}
use mir.Inst.{sub}
use mir.MapTy.{inst_fn}
use mir.Syntax.{Args, Dict, Fn, Kind, Ty, a_type, dcons, dnil, named, tcons, tnil, w8}
use mir.Table.{resolve}
use mir.Val.{Val, vint, vptr}
use base.Fml.{Fml, Lft, Share, ftrue, flft}
use base.Logic.{SProp, ent, emp, id⊢}
use base.Share
use base.Share.{halves}
use prog.Model.{Model}
use prog.Wired.{Wired}
use prog.Wp.{Tables, WpFn}
use sound.WpLaws.{WpFn-mono}
use contract.BorrowLft.{◌⊑◌, ⊑_refl, ⊑_trans}
use contract.Lifetimes.{AllOutlive}
use contract.Monad.{fact, fact_i}
use contract.Running.{Running, tables, tables_of}
use types.Logic.{Logic}
use types.Kit.{‵, raw, ◌⊛◌, given, some, later, mean, Item, ◌$◌, ◌∵◌, !, qed, by, done, move, drop, use0, use1, use2}
use types.Kit.{split, split3, frame, join, learn, pick, await, suffices, group}
use types.Run.{enter, addr, stop, no_more, and_then, returns}
use types.ByLocal.{alloc_all, pass_all, free_all, look_at, get, through, sets, lands_as}
use denote.Builtin.{u8, RefMutOf}
use denote.Enum.Declared.{shape}
use denote.Enum.Enum.{Enum, Enum-Lawful}
use denote.Exit.{yes, no}
use denote.Laws.{Lawful, Is, shows}
use denote.Param.{param, layout, bounded, arg}
use denote.Param.Glue as glue
use denote.Param.Laws.{Laws, param_laws, arg_laws}
use denote.Plain.{uint_vals, uint_Tells}
use denote.RattleType.{RattleType}
use denote.Ref.{MutBor, MutRef, mut_vals, mut_Tells, mut_Lawful}
use denote.Signature.{plain}
use denote.Steps.{nothing, peeks, heard}
use denote.Struct.Recorded.{recorded_lawful}
use denote.Triple.Call.{calls_at}
use denote.Triple.Clauses.{Clauses, Ended, closing, Lasts, lasts}
use denote.Triple.Entry.{on_entry}
use denote.Triple.Spec.{Meets, triple_of}
use denote.Triple.Statement.{Contract}
use denote.Triple.Table.{entered, framed}
use denote.Triple.Walked.{Stays, stay_dropped, walk_of, ends_at, walked, walk_Meets, says, Goes-spent_ref, Goes-dropped}
use Rattle.std.specs.Borrow.{LendsSo}
use Rattle.std.specs.Option.{ghost_name_of, option_copied_mut}
use Rattle.std.specs.Prelude.{OnSome}
use Rattle.std.specs.contracts.option.Option as option
use Rattle.rart_keys.specs.contracts.partials.Partial.TheBound as partial
use Rattle.rart_keys.specs.declared.partials.Partial as declared_partial
use Rattle.rart_parts.specs.Entries.{child_at}
use Rattle.rart_trie.specs.contracts.node.DefaultNode as node
use Rattle.rart_trie.specs.contracts.node.DefaultNode.storage_mut as opened
use Rattle.rart_trie.specs.contracts.node.node_trait.DefaultNodeNode.seek_child_mut as f
use Rattle.rart_trie.specs.contracts.node.node_trait.DefaultNodeNode.seek_child_mut.Key.{name as #self}
use Rattle.rart_trie.specs.contracts.node.storage.Storage as storage
use Rattle.rart_trie.specs.contracts.node.storage.Storage.seek_child_mut as lent
use Rattle.rart_trie.specs.edits.ChildChanges.{with_child_replaced}
use Rattle.rart_trie.specs.edits.Lends.{lends_storage}
use Rattle.rart_trie.specs.edits.NodeEdits.{stored_node}
use Rattle.rart_trie.specs.storages.Lends.{lends_child}
use Rattle.rart_trie.specs.storages.Stored.{child_entries}
use Rattle.rart_trie.proofs.edits.ChildChangeLemmas.{child-stored, storage-child_replaced, storage-same}
use Rattle.rart_trie.proofs.edits.NodeEditLemmas.{same-option}
use Rattle.rart_trie.proofs.edits.Outcomes.{on_some_weaker}
use Rattle.rart_trie.proofs.node.DefaultNode.TheLaws.{the_within, the_row_laws}
use Rattle.rart_trie.proofs.node.DefaultNode.storage_mut.Met as met_opened
use Rattle.rart_trie.proofs.node.node_trait.DefaultNodeNode.seek_child_mut.Code as code
use Rattle.rart_trie.proofs.node.node_trait.DefaultNodeNode.seek_child_mut.Statement.{statement}
use Rattle.rart_trie.proofs.node.storage.Storage.seek_child_mut.Met as met_lent
use Rattle.rart_trie.proofs.storages.LentParts.{lent_through}

module _ (P V : RattleType) (g : declared_partial.Ghosts P.Denot) (d dd : Dict) where
  abbrev kinds : List Kind
  kinds = a_type ∷ a_type ∷ []

  abbrev args : Args
  args = bounded kinds (P, (V, tt)) (dcons d (dcons dd dnil))

  abbrev function : Fn
  function = inst_fn args code.function

  abbrev Row : RattleType
  Row = node.the_row (param 0 P) (param 1 V) g

  abbrev Stored : RattleType
  Stored = storage.the_row (param 0 P) (param 1 V) Row

  -- a node as the call passes it for a type parameter
  abbrev passed : Ty
  passed = sub (tcons (layout P) (tcons (layout V) tnil)) (resolve code.Mir.table Row.written.ty)

  abbrev Passed : RattleType
  Passed = arg passed no Row

  abbrev ended : Ended
  ended = f.ended P V g d dd

  abbrev stayed : Stays ended.signature.params ended.kept
  stayed =
      (stay_dropped (RefMutOf (0 ∷ []) tt (plain (λ _. Row)) (λ _. tt)) no, (stay_dropped (plain (λ _. u8)) yes, tt))

module _ {M : Type 1} (𝓤 : Ura M) (𝓛 : Logic 𝓤) (𝓜 : Model 𝓤 𝓛.H) (𝓡 : Running 𝓤 𝓛.H 𝓜) (wired : Wired 𝓡.env code.code)
    (P V : RattleType) (LP : Laws P) (LV : Laws V) (g : declared_partial.Ghosts P.Denot) (d dd : Dict)
    (met : partial.Met 𝓛 𝓜 𝓡 𝓡.env P g d) (drops : glue.Met 𝓛 𝓜 𝓡 𝓡.env P dd) where
  abbrev Node : RattleType
  Node = Row P V g d dd

  abbrev Storage : RattleType
  Storage = Stored P V g d dd

  abbrev Child : RattleType
  Child = Passed P V g d dd

  abbrev ended' : Ended
  ended' = ended P V g d dd

  abbrev stayed' : Stays ended'.signature.params ended'.kept
  stayed' = stayed P V g d dd

  abbrev clauses : Clauses 𝓤 ended'
  clauses = f.clauses P V g d dd 𝓛 𝓜.mem 𝓡.returns

  abbrev 𝓣 : Tables 𝓤 𝓛.H
  𝓣 = tables_of 𝓤 𝓛.H 𝓜 (tables 𝓤 𝓛.H 𝓜 𝓡 𝓡.env)

  abbrev body : Fn
  body = function P V g d dd

  -- the two calls
  abbrev Opens : Contract 𝓤
  Opens = triple_of 𝓛 (opened.signature P V g d dd) (opened.spec P V g d dd 𝓛 𝓜.mem 𝓡.returns)

  abbrev Lends : Contract 𝓤
  Lends = triple_of 𝓛 (lent.signature P V Child) (lent.spec P V Child 𝓛 𝓜.mem 𝓡.returns)

  module _ (κ κP κV : Lft) (q qP qV : Share) (bounds : AllOutlive 3 ended'.signature.outlives (κ, (κP, (κV, tt))))
      (self : MutBor Node.Denot) (b : ℕ) (fits : b < 2 ^ 8) (inP : κP ⊑ P.lives) (inV : κV ⊑ V.lives) where
    abbrev bound : (walk_of 𝓛 ended' stayed' clauses).Ghost
    bound =
        (((κ, (κP, (κV, tt))), (q, (qP, (qV, tt))), bounds, (self, (b, tt)), (mut_vals self, (vint w8 b ∷ [], tt))), tt)

    abbrev y : Opens.Ghost
    y = (((κ, (κP, (κV, tt))), (q, (qP, (qV, tt))), bounds, (self, tt), (mut_vals self, tt)), tt)

    abbrev z : MutBor Storage.Denot → Val → Lends.Ghost
    z s v = (
      (
        (κ, (κP, (κV, (κ, tt)))),
        (Share.left q, (qP, (qV, (Share.right q, tt)))),
        (bounds.0, (bounds.1.0, (⊑_refl κ, tt))),
        (s, (b, tt)),
        (v ∷ [], (vint w8 b ∷ [], tt)),
      ),
      tt,
    )

    abbrev Post : Val → SProp 𝓤
    Post = (walk_of 𝓛 ended' stayed' clauses).post bound

    abbrev Ref : RattleType → RattleType
    Ref R = MutRef (named 0) κ R

    abbrev Result : RattleType
    Result = option.the_row (Ref Node)

    lawful : Lawful 𝓛 Result
    lawful =
        let T = option.the_type (Ref Node) in
        recorded_lawful (Enum (shape T)) T.D T.to T.to_one 𝓛
        (Enum-Lawful 𝓛 (shape T) tt (tt, ((mut_Lawful 𝓛 (named 0) κ Node, tt), tt)))

    within : κ ⊑ Node.lives
    within =
        let inside = the_within (param 0 P) (param 1 V) g in
        inside κ (⊑_trans κ κP P.lives bounds.0 inP) (⊑_trans κ κV V.lives bounds.1.0 inV)

    child_laws : Laws Child
    child_laws =
        let laws = the_row_laws (param 0 P) (param 1 V) g (param_laws 0 P LP) (param_laws 1 V LV) in
        arg_laws (passed P V g d dd) no Node laws refl

    -- the loan of the child, as the contract says it
    abbrev Loan : Result.Denot → Fml
    Loan r = LendsSo Node Node self r (λ n c. OnSome r (n ≡ with_child_replaced b c self.now)) (λ n. n ≡ self.now)

    -- the tokens, as the walk holds them between its calls
    abbrev Tokens : Item 𝓤
    Tokens = ‵ (flft κ q) ⊛ ‵ (flft κP qP) ⊛ ‵ (flft κV qV) ⊛ ‵ ftrue

    -- what the calls return: the tokens and a reference, and beside them what the contract says
    abbrev Open : Val → MutBor Storage.Denot → Item 𝓤
    Open v s = (Tokens ⊛ ‵ ((Ref Storage).own_val s (v ∷ [])))
        ⊛ some (λ (ws : Lasts (opened.ended P V g d dd) y.0.0 y.0.3). ‵ (lasts (opened.ended P V g d dd) y.0.0 y.0.3 ws)
        ⊛ (‵ (lends_storage (param 0 P) (param 1 V) g self s) ⊛ raw (fact 𝓤 (stored_node g.bytes s.now ≡ self.now))))

    abbrev Said : MutBor Storage.Denot → Result.Denot → Item 𝓤
    Said s r = ‵ (lends_child (param 0 P) (param 1 V) Node s b r)
        ⊛ raw (fact 𝓤 (option_copied_mut r ≡ child_at b (child_entries s.now)))

    abbrev Lent : MutBor Storage.Denot → Val → Val → Result.Denot → Item 𝓤
    Lent s v v' r = let x = (z s v).0 in
        ((‵ (flft κ (Share.left q)) ⊛ ‵ (flft κP qP) ⊛ ‵ (flft κV qV) ⊛ ‵ (flft κ (Share.right q)) ⊛ ‵ ftrue)
        ⊛ ‵ (Result.own_val r (v' ∷ []))) ⊛ some (λ (ws : Lasts (lent.ended P V Child) x.0 x.3).
        ‵ (lasts (lent.ended P V Child) x.0 x.3 ws) ⊛ Said s r)

    -- what the storage's call requires: the token of the loan is cut in two
    asks : (s : MutBor Storage.Denot) (v : Val) → ent 𝓤 (mean 𝓛 (‵ ((Ref Storage).own_val s (v ∷ []))
        ⊛ ‵ (u8.own_val b (vint w8 b ∷ [])) ⊛ Tokens)) (Lends.pre (z s v))
    asks s v =
        qed 𝓛 (‵ ((Ref Storage).own_val s (v ∷ [])) ∷ ‵ (u8.own_val b (vint w8 b ∷ [])) ∷ ‵ (flft κ q) ∷ ‵ (flft κP qP)
        ∷ (‵ (flft κV qV) ⊛ ‵ ftrue) ∷ []) ∵
        move ! (2 ∷ []) $ use1 𝓛 (‵ (flft κ (Share.left q)) ⊛ ‵ (flft κ (Share.right q)))
        (𝓛.lfts.lft_cut κ q (Share.left q) (Share.right q) (halves q)) $ split ! $
        -- [the loan's token in two; the storage; the byte; P's; V's and nothing]
        move ! (3 ∷ []) $ nothing ! $ move ! (1 ∷ 0 ∷ []) $ join ! $ move ! (3 ∷ 0 ∷ []) $ join ! $
        move ! (4 ∷ []) $ split ! $ move ! (4 ∷ 1 ∷ []) $ join ! $ move ! (1 ∷ 0 ∷ []) $ join ! $
        move ! (3 ∷ 0 ∷ []) $ join ! $ move ! (2 ∷ 0 ∷ []) $ join ! $ join ! $
        nothing ! $ use0 𝓛 (raw (fact 𝓤 (κ ⊑ Node.lives))) (fact_i 𝓤 (κ ⊑ Node.lives) (emp 𝓤) within) $ join ! $
        use0 𝓛 (raw (fact 𝓤 (κV ⊑ V.lives))) (fact_i 𝓤 (κV ⊑ V.lives) (emp 𝓤) inV) $ join ! $
        use0 𝓛 (raw (fact 𝓤 (κP ⊑ P.lives))) (fact_i 𝓤 (κP ⊑ P.lives) (emp 𝓤) inP) $ join ! $
        move ! (1 ∷ 0 ∷ []) $ by ! (id⊢ 𝓤 _)

    -- what it returns: the token is whole again
    rejoins : (s : MutBor Storage.Denot) (v v' : Val) (r : Result.Denot) → ent 𝓤 (mean 𝓛 (Lent s v v' r))
        (mean 𝓛 ((Tokens ⊛ ‵ (Result.own_val r (v' ∷ []))) ⊛ Said s r))
    rejoins s v v' r =
        qed 𝓛 (Lent s v v' r ∷ []) ∵ split ! $ split ! $ split3 ! $ move ! (2 ∷ []) $ split3 ! $ move ! (3 ∷ 1 ∷ []) $
        use2 𝓛 (‵ (flft κ q)) (𝓛.lfts.lft_glue κ q (Share.left q) (Share.right q) (halves q)) $
        -- [the loan's token; V's; nothing; P's; the result; what is said of it]
        move ! (1 ∷ 2 ∷ []) $ join ! $ move ! (2 ∷ 0 ∷ []) $ join ! $ move ! (1 ∷ 0 ∷ []) $ join ! $
        move ! (2 ∷ []) $ pick ! (λ ws. split ! $ drop ! $ move ! (1 ∷ 2 ∷ []) $ join ! $ by ! (id⊢ 𝓤 _))

    -- the result is the child, and the walk ends
    ends : (s : MutBor Storage.Denot) (v' : Val) (r : Result.Denot) → stored_node g.bytes s.now ≡ self.now
        → option_copied_mut r ≡ child_at b (child_entries s.now)
        → ent 𝓤 (mean 𝓛 (‵ (Result.own_val r (v' ∷ [])) ⊛ ‵ (Loan r) ⊛ Tokens)) (Post v')
    ends s v' r is found =
        qed 𝓛 (‵ (Result.own_val r (v' ∷ [])) ∷ ‵ (Loan r) ∷ Tokens ∷ []) ∵
        suffices ! _ (ends_at 𝓛 ended' stayed' clauses bound v' r (tt, (tt, tt)) (tt, (tt, tt))) $
        nothing ! $ nothing ! $ join ! $ nothing ! $ join ! $ move ! (3 ∷ []) $ group ! 3 $ frame ! $
        says ! (same-option (option_copied_mut r) ∙ found ∙ child-stored g.bytes self.now s.now is b) $ done !

    walk : ent 𝓤 (on_entry 𝓛 ended'.signature bound.0.0 bound.0.1 bound.0.3 bound.0.4)
        (WpFn 𝓤 𝓛.H 𝓣.C 𝓣.Λ body (vptr self.ref_ptr.0 self.ref_ptr.1 ∷ vint w8 b ∷ []) Post)
    unfolding tables_of
    walk =
        qed 𝓛 ((Tokens ⊛ ‵ ((Ref Node).own_val self (mut_vals self)) ⊛ ‵ (u8.own_val b (vint w8 b ∷ [])) ⊛ ‵ ftrue)
        ∷ []) ∵
        split ! $ move ! (1 ∷ []) $ split3 ! $
        -- [self; the byte; nothing; the tokens]
        move ! (0 ∷ 2 ∷ []) $ join ! $ move ! (2 ∷ 0 ∷ []) $ join ! $
        nothing ! $ use0 𝓛 (raw (fact 𝓤 (κV ⊑ V.lives))) (fact_i 𝓤 (κV ⊑ V.lives) (emp 𝓤) inV) $ join ! $
        use0 𝓛 (raw (fact 𝓤 (κP ⊑ P.lives))) (fact_i 𝓤 (κP ⊑ P.lives) (emp 𝓤) inP) $ join ! $
        move ! (1 ∷ 0 ∷ []) $ use2 𝓛 (raw (Opens.pre y)) (id⊢ 𝓤 _) $
        -- [what `storage_mut` requires; the byte]
        enter ! 𝓣.C 𝓣.Λ body (vptr self.ref_ptr.0 self.ref_ptr.1 ∷ vint w8 b ∷ []) _ $
        alloc_all ! (λ l. pass_all ! refl ((tt, tt), ((tt, record { fits = fits }), tt)) $
        sets ! (addr ! (through ! refl (stop !))) refl (tt, tt) $
        calls_at ! (framed 𝓤 𝓛.H 𝓜 (tables 𝓤 𝓛.H 𝓜 𝓡 𝓡.env)) Opens
        (met_opened.met 𝓤 𝓛 𝓜 𝓡 (code.calls-rart_trie::node::DefaultNode::storage_mut 𝓡.env wired) P V LP LV g d dd met
        drops) y
        (and_then ! (get ! refl) (no_more !)) (λ v.
        use1 𝓛 (later (some (Open v))) (id⊢ 𝓤 _) $ await ! tt $ pick ! (λ s. split ! $ split ! $
        -- [the tokens; the storage; what is said of it; the byte]
        move ! (2 ∷ []) $ pick ! (λ ws. split ! $ drop ! $ split ! $ move ! (1 ∷ []) $ heard ! _ (λ is.
        move ! (2 ∷ []) $ peeks ! (Ref Storage) (Is (Ref Storage)) (shows 𝓛 (Ref Storage)) s (v ∷ []) (λ fine.
        lands_as ! refl refl ((mut_Lawful 𝓛 (named 0) κ Storage).typed s (v ∷ []) fine).0 $
        -- [the storage; its loan; the tokens; the byte]
        move ! (0 ∷ 3 ∷ 2 ∷ []) $ group ! 3 $ use1 𝓛 (raw (Lends.pre (z s v))) (asks s v) $
        calls_at ! (framed 𝓤 𝓛.H 𝓜 (tables 𝓤 𝓛.H 𝓜 𝓡 𝓡.env)) Lends
        (met_lent.met 𝓤 𝓛 𝓜 𝓡 (code.calls-rart_trie::node::storage::Storage::seek_child_mut 𝓡.env wired) P V Child LP LV
        child_laws) (z s v)
        (and_then ! (get ! refl) (and_then ! (get ! refl) (no_more !))) (λ v'.
        use1 𝓛 (later (some (Lent s v v'))) (id⊢ 𝓤 _) $ await ! tt $ pick ! (λ r.
        use1 𝓛 ((Tokens ⊛ ‵ (Result.own_val r (v' ∷ []))) ⊛ Said s r) (rejoins s v v' r) $ split ! $ split ! $
        -- [the tokens; the result; what is said of it; the storage's loan]
        move ! (2 ∷ []) $ split ! $ move ! (1 ∷ []) $ heard ! _ (λ found.
        move ! (3 ∷ 0 ∷ []) $ use2 𝓛 (‵ (Loan r)) (lent_through 𝓛 Node Storage Node (stored_node g.bytes)
        self.ghost_name s.ghost_name (ghost_name_of r) _ _ _ _
        (λ c t h. on_some_weaker r (storage-child_replaced g.bytes self.now s.now is b c t) h)
        (storage-same g.bytes self.now s.now is)) $
        move ! (2 ∷ []) $ peeks ! Result (Is Result) (shows 𝓛 Result) r (v' ∷ []) (λ fine'.
        lands_as ! refl refl (lawful.typed r (v' ∷ []) fine').0 $
        returns ! (look_at ! 0 refl) $ free_all ! refl $ by ! (ends s v' r is found)))))))))))

  goes : Meets 𝓛 ended'.signature (WpFn 𝓤 𝓛.H 𝓣.C 𝓣.Λ body) (closing 𝓛 ended' clauses)
  goes =
      walk_Meets 𝓛 ended' stayed' (
        Goes-spent_ref 𝓛 3 (0 ∷ []) tt (plain (λ _. Node)),
        (Goes-dropped 𝓛 3 (plain (λ _. u8)) yes (λ κs x e. refl), tt),
      )
      clauses (WpFn 𝓤 𝓛.H 𝓣.C 𝓣.Λ body) (WpFn-mono 𝓤 𝓛.H 𝓛.laws 𝓣 body)
      (walked 𝓛 ended' stayed' clauses (WpFn 𝓤 𝓛.H 𝓣.C 𝓣.Λ body) (λ κs. (mut_vals, (uint_vals w8, tt)))
      (λ κs. (mut_Tells (named 0) κs.0 Node, (uint_Tells w8, tt)))
      (λ κs qs bounds a e are.
      qed 𝓛 (raw (on_entry 𝓛 ended'.signature κs qs a (mut_vals a.0, (uint_vals w8 a.1.0, tt)))
      ∷ (given (κs.1.0 ⊑ P.lives) (‵ ftrue) ⊛ given (κs.1.1.0 ⊑ V.lives) (‵ ftrue) ⊛ ‵ ftrue) ∷ []) ∵
      move ! (1 ∷ []) $ split3 ! $ learn ! (λ inP. drop ! $ learn ! (λ inV. drop ! $ drop ! $
      by ! (walk κs.0 κs.1.0 κs.1.1.0 qs.0 qs.1.0 qs.1.1.0 bounds a.0 a.1.0 are.1.0.1 inP inV)))))

pub seek_child_mut_spec : {M : Type 1} → statement M
unfolding tables_of
seek_child_mut_spec 𝓤 𝓛 𝓜 𝓡 wired P V LP LV g d dd met drops =
    entered 𝓤 𝓛.H (triple_of 𝓛 (f.signature P V g d dd) (f.spec P V g d dd 𝓛 𝓜.mem 𝓡.returns))
    (tables 𝓤 𝓛.H 𝓜 𝓡 𝓡.env).C (tables 𝓤 𝓛.H 𝓜 𝓡 𝓡.env).Λ (#self (args P V g d dd)) (function P V g d dd)
    (code.unfolded 𝓤 𝓛.H 𝓜 𝓡 wired (P, (V, tt)) d dd) (goes 𝓤 𝓛 𝓜 𝓡 wired P V LP LV g d dd met drops)
