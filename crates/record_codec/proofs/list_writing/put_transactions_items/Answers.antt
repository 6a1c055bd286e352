use Rattle.record_codec.proofs.ListKinds.{writes_fit}
use Rattle.record_codec.proofs.list_writing.put_transactions_items.Goals as goal

pub put_unfinished-requires : goal.put_unfinished-requires
put_unfinished-requires c = writes_fit c.args.items.now c.loop-item.item-index c.item-item.result c.loop-item-test.true c.item-item.is c.requires
