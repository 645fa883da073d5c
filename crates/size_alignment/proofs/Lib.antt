pub mod SizesDiffer
pub mod FittingSizes
