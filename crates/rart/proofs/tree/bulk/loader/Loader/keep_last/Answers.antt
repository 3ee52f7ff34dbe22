use Rattle.std.proofs.lemmas.Result.{IfErr-weaker, on_ok_weaker}
use Rattle.rart.proofs.bulks.BulkLoadLemmas.{append-fails, appended, replaced}
use Rattle.rart.proofs.tree.bulk.loader.Loader.keep_last.Goals as goal

pub returns-in-Equal-clause-keeps_item : goal.returns-in-Equal-clause-keeps_item
returns-in-Equal-clause-keeps_item g c es l = replaced es c.args.self.now _ _ l c.one_item_more.ensures.same
    c.in-Equal.ensures _ c.replace_last.ensures

pub returns-in-Less-clause-keeps_item : goal.returns-in-Less-clause-keeps_item
returns-in-Less-clause-keeps_item g c es l = on_ok_weaker c.append.result
    (λ e. rw e (appended es c.args.self.now _ _ l c.one_item_more.ensures.later c.in-Less.ensures))
    c.append.ensures.pairs

pub returns-in-Less-clause-refused : goal.returns-in-Less-clause-refused
returns-in-Less-clause-refused g c es l a = IfErr-weaker c.append.result _ _
    (append-fails es c.args.self.now _ _ l c.one_item_more.ensures.later c.in-Less.ensures) c.append.ensures.refused
