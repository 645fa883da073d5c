use Rattle.dci_codec.proofs.Readings.{fields_of}
use Rattle.dci_codec.proofs.hearing.fields_in.Goals as goal

pub returns : goal.returns
returns c =
    fields_of c.args.watch.now c.args.format c.list.result c.args.payload.now c.unpack.result c.list.ensures c.unpack.ensures
