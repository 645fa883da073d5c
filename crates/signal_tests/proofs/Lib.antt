mod RegsInARow
mod Entries
