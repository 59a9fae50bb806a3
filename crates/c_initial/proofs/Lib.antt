mod TextStarts
mod Spotted
mod Braced
mod Pointed
mod Runs
mod Filling
