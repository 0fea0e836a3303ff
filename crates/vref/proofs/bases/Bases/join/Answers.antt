use Rattle.vref.proofs.bases.Bases.join.Goals as goal

pub returns-in_err-place_beside-2 : goal.returns-in_err-place_beside-2
returns-in_err-place_beside-2 c objects are list back = c.place_beside-2.ensures objects (c.add_base-2.ensures objects (c.place_beside.ensures objects (c.add_base.ensures objects are) list)) back

pub returns : goal.returns
returns c objects are list back = c.place_beside-2.ensures objects (c.add_base-2.ensures objects (c.place_beside.ensures objects (c.add_base.ensures objects are) list)) back
