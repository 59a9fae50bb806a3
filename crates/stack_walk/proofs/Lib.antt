mod Arrays
mod Entries
mod Rows
